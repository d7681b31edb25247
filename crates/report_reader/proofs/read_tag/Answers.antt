-- The tests of the head and of the corners say whether the row stands. Assumes nothing.
use Rattle.std.proofs.Common.{◌≡◌, ap, ◌∙◌, arith}
use Rattle.refusals.specs.Outcome.{accepted}
use Rattle.report.specs.Report.{quad_in}
use Rattle.report_reader.specs.declared.Head.{Head}
use Rattle.report_reader.specs.Steps.{tag_stands}
use Rattle.report_reader.proofs.Stands.{tests, tests_say}
use Rattle.report_reader.proofs.read_tag.Goals.{After-head_of-head, else-bytes-tag_map-via-then-bytes-tag_map+then-good_numbers+else-not-bad_quad, else-bytes-tag_map-via-then-bytes-tag_map+else-good_numbers, else-bytes-tag_map-via-else-bytes-tag_map}
use Rattle.report_reader.proofs.read_tag.Goals as goal

said : (h : After-head_of-head) → tests h.args.bytes.now h.head_of-head.result ≡ tag_stands h.args.bytes.now
said h = ap (tests h.args.bytes.now) h.head_of-head.ensures ∙ tests_say h.args.bytes.now (λ i. omega (arith, h.type_inv.bytes i))

pub returns-then-bytes-head-clause-nothing : goal.returns-then-bytes-head-clause-nothing
returns-then-bytes-head-clause-nothing c =
    let e = said (goal.at.returns-then-bytes-head-clause-nothing c).After-head_of-head in
    grind (arith, e)

pub returns-then-not-bad_quad-clause-row : goal.returns-then-not-bad_quad-clause-row
returns-then-not-bad_quad-clause-row c =
    let e = said (goal.at.returns-then-not-bad_quad-clause-row c).After-head_of-head in
    let bytes = c.args.bytes.now in
    let head = c.head_of-head.ensures in (
      grind (arith, e),
      ap accepted (λ j. record { id = (head j).id; turn = (head j).turn; differing = (head j).differing; corners = (c.quad_at.ensures ∙ ap (λ (x : Head). quad_in x.corners bytes) head) j }),
    )

pub returns-clause-nothing : goal.returns-clause-nothing
returns-clause-nothing c =
    let e = said (goal.at.returns-clause-nothing c).After-head_of-head in
    elim c.else-bytes-tag_map.branch [
      | else-bytes-tag_map-via-then-bytes-tag_map+then-good_numbers+else-not-bad_quad w ↦ grind (arith, e)
      | else-bytes-tag_map-via-then-bytes-tag_map+else-good_numbers w ↦ grind (arith, e)
      | else-bytes-tag_map-via-else-bytes-tag_map w ↦ grind (arith, e)
    ]
