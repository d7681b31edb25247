-- A row that stands has all its bytes, and its corners pass refusal 8. Assumes nothing.
use mathlib.Core.Path.{◌≡◌, sym, ap, subst, ◌∙◌}
use mathlib.Core.Bool.{false}
use Prim.Native.Nat.{ℕ, ◌+◌, ◌≤◌}
use native.Mathlib.Omega.{arith}
use lib.ListN.{length}
use Rattle.refusals.specs.Outcome.{accepted}
use Rattle.places.specs.Corners.{bad_corners}
use Rattle.report.specs.Report.{quad_in, row_in}
use Rattle.report.proofs.Good.{row_some}
use Rattle.report_reader.specs.declared.Head.{Head}
use Rattle.report_reader.proofs.Stands.{TagStands, tag_means, stands_tag, stands_long, row_of_tag, row_of_refusal}
use Rattle.report_reader.proofs.reading_of.Goals.{Else-bytes-eq-REFUSED_MAP, Start}
use Rattle.report_reader.proofs.reading_of.Goals as goal

-- two bytes at least
some : (s : Start) → 2 ≤ length s.args.bytes.now
some s = let bytes = s.args.bytes.now in omega (arith, stands_long bytes s.requires, row_some (row_in bytes))

whole : (e : Else-bytes-eq-REFUSED_MAP) → TagStands e.args.bytes.now
whole e = let bytes = e.args.bytes.now in tag_means bytes (sym (stands_tag bytes e.if-bytes-eq-REFUSED_MAP.false) ∙ e.requires)

pub bounds-bytes-0 : goal.bounds-bytes-0
bounds-bytes-0 c = omega (arith, some (goal.at.bounds-bytes-0 c).Start)

pub bounds-bytes-1 : goal.bounds-bytes-1
bounds-bytes-1 c = omega (arith, some (goal.at.bounds-bytes-1 c).Start)

pub returns-then-bytes-eq-REFUSED_MAP : goal.returns-then-bytes-eq-REFUSED_MAP
returns-then-bytes-eq-REFUSED_MAP c = sym (row_of_refusal c.args.bytes.now c.if-bytes-eq-REFUSED_MAP.true)

pub head_of-head-requires : goal.head_of-head-requires
head_of-head-requires c = omega (arith, (whole c).long)

pub quad_at-requires : goal.quad_at-requires
quad_at-requires c =
    let bytes = c.args.bytes.now in
    let at = sym (ap (λ (x : Head). x.corners) c.head_of-head.ensures) in
    let s = whole (goal.at.quad_at-requires c).Else-bytes-eq-REFUSED_MAP in
    subst (λ (k : ℕ). (k + 32 ≤ length bytes) × (bad_corners (quad_in k bytes) ≡ false)) at (omega (arith, s.long), s.good.corners_pass)

pub returns : goal.returns
returns c =
    let bytes = c.args.bytes.now in
    let head = c.head_of-head.ensures in
    ap accepted (λ j. record { id = (head j).id; turn = (head j).turn; differing = (head j).differing; corners = (c.quad_at.ensures ∙ ap (λ (x : Head). quad_in x.corners bytes) head) j })
    ∙ sym (row_of_tag bytes c.if-bytes-eq-REFUSED_MAP.false)
