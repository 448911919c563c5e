use Rattle.ft_stream.proofs.streaming.told.Goals as goal

pub returns-in-Some : goal.returns-in-Some
returns-in-Some c = λ bytes spelled allowed. record {
  h = c.args.replayer.now.list;
  spelled = spelled;
  allowed = allowed;
  first = c.in-Some.ensures.some;
}

pub returns-in-None : goal.returns-in-None
returns-in-None c = λ bytes spelled allowed. record {
  h = c.args.replayer.now.list;
  spelled = spelled;
  allowed = allowed;
  nowhere = c.in-None.ensures.none;
  count = c.scans.ensures;
}
