-- Before row q, looking at the bytes from `at` on finds what looking at all of them finds (`report_placed`). Assumes nothing.
use Rattle.std.proofs.Common.{◌≡◌, false, ◌≤◌, length, drop, replicate}
use Rattle.report.specs.Steps.{byte_candidates, placed}
use Rattle.report_reader.proofs.Whole.{left}
use Rattle.report_reader.proofs.is_report.Given as goal

abbrev pub invariant-loop-q : goal.invariant-loop-q
invariant-loop-q l =
    (l.at ≤ length l.report) × (placed (replicate 1024 false) (byte_candidates l.count (drop 2 l.report)) 2 ≡ placed l.met.ids (left l.report l.count l.q l.at) l.at)
