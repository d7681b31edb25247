-- Either `none` is put, or the id and the turn.
use Rattle.std.proofs.Common.{ℕ, List, [], ◌∷◌, ◌++◌, refl, ap, arith, length-append}
use Rattle.text.specs.Text.{space, line_feed, decimal}
use Rattle.text.proofs.Decimal.{decimal-length}
use Rattle.text.proofs.Join.{put_more, as_text}
use Rattle.readbits_lines.proofs.Within.{IsTag, tag_found, none_found}
use Rattle.readbits_lines.proofs.put_answer.Goals.{In-Some}
use Rattle.readbits_lines.proofs.put_answer.Goals as goal

-- what is known once a tag is found
found : (c : In-Some) → IsTag c.args.bits c.in-Some.tag.id c.in-Some.tag.turn
found c = tag_found c.args.bits c.search_t16h5.result c.search_t16h5.ensures c.in-Some.tag c.in-Some.is

pub returns-in_default : goal.returns-in_default
returns-in_default c =
    as_text (ap (λ (t : List ℕ). t ++ (line_feed ∷ [])) (none_found c.args.bits c.search_t16h5.result c.search_t16h5.ensures c.in_default.not-Some))
    c.put.ensures

pub overflow_cast-tag : goal.overflow_cast-tag
overflow_cast-tag c = omega (arith, (found (goal.at.overflow_cast-tag c).In-Some).id_lt)

pub put_number-requires : goal.put_number-requires
put_number-requires c = ((found (goal.at.put_number-requires c).In-Some).id_lt, omega arith)

pub put_number-requires-2 : goal.put_number-requires-2
put_number-requires-2 c =
    let t = found (goal.at.put_number-requires-2 c).In-Some in
    (omega (arith, t.turn_lt), omega (arith, c.put_number.ensures, decimal-length c.in-Some.tag.id t.id_lt))

pub put_byte-requires : goal.put_byte-requires
put_byte-requires c =
    let t = found (goal.at.put_byte-requires c).In-Some in
    omega (arith, c.put_number-2.ensures, c.put_number.ensures, decimal-length c.in-Some.tag.id t.id_lt, decimal-length c.in-Some.tag.turn (omega (arith, t.turn_lt)))

pub returns : goal.returns
returns c =
    let t = found (goal.at.returns c).In-Some in
    let id = decimal-length c.in-Some.tag.id t.id_lt in
    let turn = decimal-length c.in-Some.tag.turn (omega (arith, t.turn_lt)) in
    let both = length-append (space ∷ decimal c.in-Some.tag.id) (space ∷ decimal c.in-Some.tag.turn) in
    put_more (ap (λ (l : List ℕ). l ++ (line_feed ∷ [])) t.text) (omega (arith, both, id, turn))
    (put_more refl (omega (arith, id)) c.put_number.ensures c.put_number-2.ensures)
    c.put_byte.ensures
