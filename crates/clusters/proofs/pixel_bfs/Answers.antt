-- The loop keeps `State` of the plane that was lent. The measure is the number of samples not yet counted.
use mathlib.Core.Path.{refl, sym, ap, ◌∙◌, subst}
use mathlib.Core.List.{List, []}
use Prim.Native.Nat.{ℕ, ◌+◌, ◌-◌, ◌%◌, ◌<◌, ◌≤◌}
use native.Mathlib.Nat.{mod-lt, div-le_self}
use native.Mathlib.Omega.{arith}
use borrow.Author.Rules.{rules}
use lib.Ieee.{Float}
use lib.ListN.{length, get_or}
use lib.Seq.{length-take-le}
use Rattle.clusters.specs.Walk.{Walk, walk}
use Rattle.clusters.proofs.Stack.{emptied}
use Rattle.clusters.proofs.Walk.{State, State-begun, walk_inside, walk_turn, done_plane, done_row, x_bound, y_bound, room}
use Rattle.clusters.proofs.pixel_bfs.Goals.{At-loop-walker, In-loop-walker}
use Rattle.clusters.proofs.pixel_bfs.Goals as goal

-- ---- at the loop's head
module _ (c : At-loop-walker) where
  abbrev plane : List Float
  plane = c.args.mat.now

  abbrev t : Float
  t = c.args.threshold

  abbrev w : ℕ
  w = c.args.width

  abbrev v : Walk
  v = walk c.loop-walker.walker.mat.now c.loop-walker.walker.pending c.loop-walker.walker.worklist.now

  counted : c.loop-walker.count + c.loop-walker.walker.pending ≤ length plane
  counted =
      omega (arith, room t w plane c.args.seed v c.loop-walker.x c.loop-walker.y c.loop-walker.count c.loop-walker.invariant.state, length-take-le c.loop-walker.walker.pending c.loop-walker.walker.worklist.now c.loop-walker.invariant.inside)

-- ---- in a turn: the sample that is taken up lies in the plane
module _ (c : In-loop-walker) where
  abbrev p : ℕ
  p = get_or c.loop-walker.walker.worklist.now (c.loop-walker.walker.pending - 1) 0

  inside : p < length c.args.mat.now
  inside =
      let l = c.loop-walker in
      walk_inside c.args.threshold c.args.width c.args.mat.now c.args.seed l.walker.mat.now l.walker.worklist.now l.walker.pending l.x l.y l.count
      l.invariant.state c.loop-walker-test.true l.invariant.inside

pub loop-walker-init : goal.loop-walker-init
loop-walker-init c =
    let s = c.claim.new.self in
    let e = c.claim.ensures in
    let begun = State-begun c.args.threshold c.args.width c.args.mat.now c.args.seed c.requires.seed_value.1 (walk s.mat.now s.pending s.worklist.now) e.worklist_after in
    record {
      state = begun.0;
      gone = begun.1;
      inside = omega (arith, e.upper_bound, e.same_lengths.1, c.requires.seed_value.2);
      long = e.same_lengths.1;
      same_threshold = e.same_threshold;
      same_loans = (refl, refl);
    }

pub overflow_add-x : goal.overflow_add-x
overflow_add-x c =
    let l = c.loop-walker in
    let at = (goal.at.overflow_add-x c).In-loop-walker in
    omega (
      arith,
      c.requires.width_nonzero,
      x_bound c.args.threshold c.args.width c.args.mat.now c.args.seed (v (goal.at.overflow_add-x c).At-loop-walker) l.x l.y l.count l.invariant.state c.requires.width_nonzero.0 c.requires.width_nonzero.1,
      mod-lt (p at) c.requires.width_nonzero.0,
    )

pub overflow_add-y : goal.overflow_add-y
overflow_add-y c =
    let l = c.loop-walker in
    let at = (goal.at.overflow_add-y c).In-loop-walker in
    omega (
      arith,
      c.requires.width_nonzero,
      inside at,
      y_bound c.args.threshold c.args.width c.args.mat.now c.args.seed (v (goal.at.overflow_add-y c).At-loop-walker) l.x l.y l.count l.invariant.state c.requires.width_nonzero.3,
      div-le_self (p at) c.args.width,
    )

pub overflow_add-count : goal.overflow_add-count
overflow_add-count c = omega (arith, counted (goal.at.overflow_add-count c).At-loop-walker, c.requires.width_nonzero.3)

pub claim_around-requires : goal.claim_around-requires
claim_around-requires c =
    let l = c.loop-walker in
    let e = l.invariant.state.long in (
      c.requires.width_nonzero.0,
      c.requires.width_nonzero.1,
      ap (λ (n : ℕ). n % c.args.width) e ∙ c.requires.width_nonzero.2,
      omega (arith, e, c.requires.width_nonzero.3),
      omega (arith, e, inside (goal.at.claim_around-requires c).In-loop-walker),
      omega (arith, counted (goal.at.claim_around-requires c).At-loop-walker, l.invariant.long, c.requires.seed_value.2, c.loop-walker-test.true),
    )

pub loop-walker-smaller : goal.loop-walker-smaller
loop-walker-smaller c = omega (arith, counted (goal.at.loop-walker-smaller c).At-loop-walker, c.loop-walker-test.true)

pub loop-walker-preserved : goal.loop-walker-preserved
loop-walker-preserved c =
    let l = c.loop-walker in
    let i = l.invariant in
    let s = c.claim_around.new.self in
    let e = c.claim_around.ensures in
    let turned =
    walk_turn c.args.threshold c.args.width c.args.mat.now c.args.seed l.walker.mat.now l.walker.worklist.now l.walker.pending l.x l.y l.count
    i.state c.loop-walker-test.true i.inside c.requires.seed_value.1 c.requires.width_nonzero.0 i.gone
    (walk s.mat.now s.pending s.worklist.now) (rw i.same_threshold at e.worklist_after) in
    record {
      state = turned.0;
      gone = turned.1;
      inside = omega (arith, e.upper_bound, e.same_lengths.1, counted (goal.at.loop-walker-preserved c).At-loop-walker, i.long, c.requires.seed_value.2, c.loop-walker-test.true);
      long = e.same_lengths.1 ∙ i.long;
      same_threshold = e.same_threshold ∙ i.same_threshold;
      same_loans = (e.same_loans.0 ∙ i.same_loans.0, e.same_loans.1 ∙ i.same_loans.1);
    }

pub returns : goal.returns
returns c =
    let a = c.args in
    let l = c.loop-walker in
    let i = l.invariant in
    let same_loan = sym (i.same_loans.0 ∙ c.claim.ensures.same_loans.0) in
    let e : State a.threshold a.width a.mat.now a.seed [] (record { plane = l.walker.mat.now; waiting = [] }) l.x l.y l.count
    = subst (λ (m : List ℕ). State a.threshold a.width a.mat.now a.seed [] (record { plane = l.walker.mat.now; waiting = m }) l.x l.y l.count)
    (emptied l.walker.worklist.now l.walker.pending c.loop-walker-test.false) i.state in
    let plane = done_plane a.threshold a.width a.mat.now a.seed c.requires.width_nonzero.0 c.requires.seed_value.0 l.walker.mat.now l.x l.y l.count e i.gone in
    let row = done_row a.threshold a.width a.mat.now a.seed c.requires.width_nonzero.0 c.requires.seed_value.0 l.walker.mat.now l.x l.y l.count e i.gone in
    search (rules, same_loan, plane, row)
