use Rattle.serde_json.specs.View.{members_view}
use Rattle.ft_report.specs.meaning.FaultText.{fault_text}
use Rattle.ft_report.specs.meaning.Report.{gap_words, overlap_words, range_words, stops_words}
use Rattle.ft_json.proofs.EntryLemmas.{of-fails, of-fault, of-refuted, of-shown, of-spent, of-verified, told}
use Rattle.ft_json.proofs.telling.put_report.Goals as goal

pub returns-in-Verified : goal.returns-in-Verified
returns-in-Verified c =
    let old = members_view c.args.members.now.entries in
    let new = members_view c.put_verified.new.members.entries in
    told c.put_verified.result _ _ old new c.in-Verified.is (of-verified c.in-Verified.tables c.in-Verified.list old new) c.put_verified.ensures

pub returns-in-Refuted : goal.returns-in-Refuted
returns-in-Refuted c =
    let old = members_view c.args.members.now.entries in
    let new = members_view c.put_refuted.new.members.entries in
    told c.put_refuted.result _ _ old new c.in-Refuted.is (of-refuted c.in-Refuted.tables c.in-Refuted.list c.in-Refuted.scan old new) c.put_refuted.ensures

pub returns-in-Fails : goal.returns-in-Fails
returns-in-Fails c =
    let old = members_view c.args.members.now.entries in
    let new = members_view c.put_failing.new.members.entries in
    told c.put_failing.result _ _ old new c.in-Fails.is (of-fails c.in-Fails.tables c.in-Fails.obligation c.in-Fails.state c.in-Fails.short old new) c.put_failing.ensures

pub returns-in-Spent : goal.returns-in-Spent
returns-in-Spent c =
    let old = members_view c.args.members.now.entries in
    let new = members_view c.put_spending.new.members.entries in
    told c.put_spending.result _ _ old new c.in-Spent.is (of-spent c.in-Spent.tables c.in-Spent.subject c.in-Spent.short old new) c.put_spending.ensures

pub returns-in-Refused : goal.returns-in-Refused
returns-in-Refused c =
    let old = members_view c.args.members.now.entries in
    let new = members_view c.put_refused.new.members.entries in
    told c.put_refused.result _ _ old new c.in-Refused.is (of-fault (fault_text c.in-Refused.fault) old new) c.put_refused.ensures

pub returns-in-NatStops : goal.returns-in-NatStops
returns-in-NatStops c =
    let old = members_view c.args.members.now.entries in
    let new = members_view c.put_stops.new.members.entries in
    told c.put_stops.result _ _ old new c.in-NatStops.is (of-fault (stops_words c.in-NatStops.length) old new) c.put_stops.ensures

pub returns-in-Gap : goal.returns-in-Gap
returns-in-Gap c =
    let old = members_view c.args.members.now.entries in
    let new = members_view c.put_gap.new.members.entries in
    told c.put_gap.result _ _ old new c.in-Gap.is (of-shown (gap_words c.in-Gap.tables c.in-Gap.table) c.in-Gap.state old new) c.put_gap.ensures

pub returns-in-Overlap : goal.returns-in-Overlap
returns-in-Overlap c =
    let old = members_view c.args.members.now.entries in
    let new = members_view c.put_overlap.new.members.entries in
    told c.put_overlap.result _ _ old new c.in-Overlap.is (of-shown (overlap_words c.in-Overlap.tables c.in-Overlap.table c.in-Overlap.first c.in-Overlap.second) c.in-Overlap.state old new) c.put_overlap.ensures

pub returns-in-OutOfRange : goal.returns-in-OutOfRange
returns-in-OutOfRange c =
    let old = members_view c.args.members.now.entries in
    let new = members_view c.put_range.new.members.entries in
    told c.put_range.result _ _ old new c.in-OutOfRange.is (of-shown (range_words c.in-OutOfRange.tables c.in-OutOfRange.table c.in-OutOfRange.cell) c.in-OutOfRange.state old new) c.put_range.ensures
