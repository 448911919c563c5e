-- What is left of a scan that is over.
use Rattle.ft_scan.specs.declared.frame.Frame.{Frame}

-- its values are those one scan before
abbrev pub passed : Frame → Frame
passed frame = record { now = frame.past; past = frame.now; truths = frame.truths; columns = frame.columns; runs = frame.runs }
