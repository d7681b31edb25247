-- The lanes take in the samples of each block, and what is left is taken in at the end.
use Rattle.std.proofs.Common.{rules, ◌≡◌, refl, sym, ap, ◌∙◌, subst, Bool, true, ◌&&◌, ℕ, ◌+◌, ◌*◌, ◌/◌, ◌<◌, ◌≤◌, List, [], length, get_or, take, drop, length-drop, arith}
use Rattle.std.specs.Simd.{first_chunks}
use Rattle.std.specs.Simd.Lanes.{zip2}
use mathlib.Core.Bool.{and_assoc}
use lib.Ieee.{Float, nan, eq}
use lib.Seq.{length-take-le, get_or-take, get_or-drop}
use Rattle.lists.specs.Tab.{all}
use Rattle.samples.specs.Samples.{tame}
use Rattle.samples.proofs.Laws.{block_is, block_next, tame_is}
use Rattle.threshold.specs.Threshold.{lowest_of, lowest}
use Rattle.threshold.proofs.Lanes.{Lanes, lower, all-finite, Lanes-none, Lanes-more, lanes_all}
use Rattle.threshold.proofs.find_lowest.Goals as goal
use Rattle.threshold.proofs.find_lowest.Goals.{After-lower_each-lanes, After-then_some, then-tame, else-tame}

block : (bs : List (List Float)) (d : List Float) (l : List Float) (k n : ℕ) → bs ≡ first_chunks 16 n l → k < n → get_or bs k d ≡ take 16 (drop (k * 16) l)
block bs d l k n e h = ap (λ (x : List (List Float)). get_or x k d) e ∙ block_is tame 16 n l k d h

-- the test of a block
tested : (c : After-lower_each-lanes) → c.hold_lanes.result ≡ all tame (take 16 (drop (c.loop-block.block-index * 16) c.args.samples.now))
tested c =
    let l = c.args.samples.now in
    c.hold_lanes.ensures ∙ ap (λ (p : Float → Bool). all p (get_or c.as_chunks.result.0.now c.loop-block.block-index [])) tame_is ∙ ap (all tame) (block _ _ l c.loop-block.block-index (length l / 16) c.as_chunks.ensures.front (let h = c.loop-block-test.true in omega arith))

-- the rest, and the test of all
left : (c : After-then_some) → c.as_chunks.result.1.now ≡ drop (c.loop-block.block-index * 16) c.args.samples.now
left c =
    let l = c.args.samples.now in
    let e : length l / 16 ≡ c.loop-block.block-index = omega arith in
    c.as_chunks.ensures.back ∙ ap (λ (n : ℕ). drop (n * 16) l) e

whole : (c : After-then_some) → c.if-tame.then_some ≡ all tame c.args.samples.now
whole c =
    let l = c.args.samples.now in
    let h = c.loop-block in
    let back = all tame (drop (h.block-index * 16) l) in
    elim c.if-tame.branch [
      | then-tame w ↦
          w.then_some-is ∙ w.hold.ensures ∙ ap (λ (p : Float → Bool). all p c.as_chunks.result.1.now) tame_is ∙ ap (all tame) (left c)
          ∙ sym (h.invariant.tested ∙ ap (λ (x : Bool). x && back) w.if-tame.true)
      | else-tame w ↦ w.then_some-is ∙ w.if-tame.false ∙ sym (h.invariant.tested ∙ ap (λ (x : Bool). x && back) w.if-tame.false)
    ]

pub loop-block-init : goal.loop-block-init
loop-block-init c =
    let l = c.args.samples.now in
    record { tested = refl; lowered = λ e. Lanes-none l c.requires (all-finite l e) 16 }

pub loop-block-preserved : goal.loop-block-preserved
loop-block-preserved c =
    let h = c.loop-block in
    let l = c.args.samples.now in
    let k = h.block-index in
    let i = k * 16 in
    let part = take 16 (drop i l) in
    let fits : i + 16 ≤ length l = omega arith in
    let long : length part ≡ 16 = length-take-le 16 (drop i l) (omega (arith, length-drop i l)) in
    let e = block _ _ l k (length l / 16) c.as_chunks.ensures.front (omega arith) in
    record {
      tested =
          h.invariant.tested
          ∙ ap (λ (x : Bool). h.tame && x) (block_next tame 16 k l ∙ ap (λ (x : Bool). x && all tame (drop ((k + 1) * 16) l)) (sym (tested c)))
          ∙ sym (and_assoc h.tame c.hold_lanes.result (all tame (drop ((k + 1) * 16) l)));
      lowered =
          λ g.
          subst (λ (m : ℕ). Lanes l 16 m c.lower_each-lanes.result) (omega arith)
          (Lanes-more l c.requires (all-finite l g) 16 i h.lanes part c.lower_each-lanes.result fits
          (λ j b. get_or-take 16 (drop i l) j nan b ∙ get_or-drop i l j nan)
          long
          (c.lower_each-lanes.ensures ∙ ap (zip2 lower h.lanes) e) (h.invariant.lowered g));
    }

pub returns-clause-tame : goal.returns-clause-tame
returns-clause-tame c = search (rules, whole (goal.at.returns-clause-tame c).After-then_some)

pub returns-clause-low : goal.returns-clause-low
returns-clause-low c =
    let h = c.loop-block in
    let l = c.args.samples.now in
    let i = h.block-index * 16 in
    let here = (goal.at.returns-clause-low c).After-then_some in
    let low : c.if-tame.then_some ≡ true → eq c.lowest_of.result (lowest l) ≡ true = λ e.
    let good : all tame l ≡ true = sym (whole here) ∙ e in
    ap (λ (v : Float). eq v (lowest l))
    (c.lowest_of.ensures
    ∙ ap (λ (x : List Float). lowest_of c.lowest_of-gathered.result x) (left here)
    ∙ ap (λ (v : Float). lowest_of v (drop i l)) c.lowest_of-gathered.ensures)
    ∙ lanes_all l c.requires (all-finite l good) 16 i h.lanes (omega arith) (h.invariant.lowered good) in
    search (rules, low)
