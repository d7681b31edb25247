-- The three lines have 38, 65 and 98 bytes, which are computed; put one after another they fill the 201. Assumes nothing.
use Rattle.std.proofs.Common.{◌≡◌, ℕ, List, ◌++◌, length, refl, sym, ap, ◌∙◌, append_assoc, append-nil, arith, length-append}
use mathlib.Core.List.{flat_map}
use Rattle.lists.specs.Tab.{tabulate}
use Rattle.text.specs.Text.{decimal_within}
use Rattle.text.proofs.Join.{put_more, put_whole}
use Rattle.turning_lines.specs.Turning.{spaced, line, turning}
use Rattle.turning_lines.proofs.put_lines.Goals as goal

four : length (line 4) ≡ 38
unfolding line spaced tabulate flat_map decimal_within
four = refl

five : length (line 5) ≡ 65
unfolding line spaced tabulate flat_map decimal_within
five = refl

six : length (line 6) ≡ 98
unfolding line spaced tabulate flat_map decimal_within
six = refl

in_order : (line 4 ++ line 5) ++ line 6 ≡ turning
unfolding turning flat_map
in_order = append_assoc (line 4) (line 5) (line 6) ∙ ap (λ (l : List ℕ). line 4 ++ (line 5 ++ l)) (sym (append-nil (line 6)))

pub put_line-requires : goal.put_line-requires
put_line-requires c = (omega arith, omega arith, omega (arith, four))

pub put_line-requires-2 : goal.put_line-requires-2
put_line-requires-2 c = (omega arith, omega arith, omega (arith, five, four))

pub put_line-requires-3 : goal.put_line-requires-3
put_line-requires-3 c = (omega arith, omega arith, omega (arith, six, five, four))

pub returns : goal.returns
returns c =
    let both = length-append (line 4) (line 5) in
    let all = put_more in_order (omega (arith, four, five, both)) (put_more refl (omega (arith, four)) c.put_line.ensures c.put_line-2.ensures) c.put_line-3.ensures in
    let whole = put_whole refl (omega (arith, four, five, six, both, length-append (line 4 ++ line 5) (line 6), ap length in_order)) all in
    grind (arith, all.same_loan, whole)
