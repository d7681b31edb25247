-- The walk from a seed finds its connected set. What the loop keeps: each marked sample is joined to the seed; each that waits is marked;
-- each neighbour of a marked sample that does not wait is marked too; the sums are those over the marked samples that do not wait. Assumes nothing.
use mathlib.Core.Path.{◌≡◌, refl, sym, ap, ◌∙◌, subst}
use mathlib.Core.Logic.{◌⊎◌, inl, inr, ⊎_elim}
use mathlib.Core.Bool.{Bool, true, false, not, ◌&&◌, cond, false≢true}
use mathlib.Mathlib.Data.Bool.Basic.{and_intro}
use mathlib.Core.List.Memᴰ
use mathlib.Core.List.{List, [], ◌∷◌, ◌++◌, Memᴰ}
use Prim.Native.Nat.{ℕ, ◌+◌, ◌-◌, ◌*◌, ◌/◌, ◌%◌, ◌≤◌, ◌<◌}
use native.Mathlib.Nat.{mod-lt, div-le_self, mul-one}
use native.Mathlib.Omega.{arith}
use lib.ListN.{length, get_or, take, set, length-set}
use lib.Seq.{get_or-set_same, get_or-set_other, ext_get_or}
use lib.Dec.{ltb, leb}
use lib.Ieee.{Float, nan, lt}
use Rattle.std.proofs.lemmas.List.{take_more_set}
use Rattle.std.proofs.lemmas.Bool.{and_parts, and_left, and_right, cases_Bool, cases_eq}
use Rattle.std.specs.Cmp.{both_ways}
use Rattle.lists.proofs.Tab.{length-tabulate, get_or-tabulate}
use Rattle.clusters.specs.Connected.{below, connected}
use Rattle.clusters.specs.Clusters.{max_f32, row_of}
use Rattle.clusters.specs.Walk.{Walk, walk, claimed, claimed_if, claimed_beside, erased}
use Rattle.clusters.proofs.Members.{list_sum, list_sum_more, list_sum_ones, set_sum, set_sum_none, set_sum_same, set_sum-le, set_sum_more}
use Rattle.clusters.proofs.Neighbours.{Beside, down}
use Rattle.clusters.proofs.Stack.{popped}
use Rattle.clusters.proofs.Around.{is_left, is_right, is_above, one_of_four}
use Rattle.clusters.proofs.Joined.{Joined, here, step}
use Rattle.clusters.proofs.Connected.{below_inside, connected_joined, joined_connected}

-- ---- a claim

module _ (t : Float) (q : ℕ) (v : Walk) where
  abbrev taken : Walk
  taken = record { plane = set v.plane q max_f32; waiting = v.waiting ++ (q ∷ []) }

  claimed_low : below t v.plane q ≡ true → taken ≡ claimed t q v
  unfolding claimed
  claimed_low e = sym (ap (λ (b : Bool). cond b taken v) e)

  pub claimed_high : below t v.plane q ≡ false → v ≡ claimed t q v
  unfolding claimed
  claimed_high e = sym (ap (λ (b : Bool). cond b taken v) e)

-- the code's own step, where the sample is below the threshold
pub claim_low : (t : Float) (q : ℕ) (plane : List Float) (pending : ℕ) (worklist : List ℕ) → pending < length worklist → below t plane q ≡ true
    → walk (set plane q max_f32) (pending + 1) (set worklist pending q) ≡ claimed t q (walk plane pending worklist)
claim_low t q plane pending worklist h e =
    ap (λ (l : List ℕ). record { plane = set plane q max_f32; waiting = l }) (take_more_set worklist pending q h) ∙ claimed_low t q (walk plane pending worklist) e

module _ (t : Float) (q : ℕ) (v : Walk) (big : lt max_f32 t ≡ false) where
  -- afterwards the sample is not below the threshold
  set_high : below t (set v.plane q max_f32) q ≡ false
  set_high = ⊎_elim
      (λ e. let h = below_inside t (set v.plane q max_f32) q e in
      ap (λ (x : Float). lt x t) (get_or-set_same v.plane q max_f32 nan (rw length-set at h)) ∙ big)
      (λ e. e)
      (cases_Bool (below t (set v.plane q max_f32) q))

  set_stays : (i : ℕ) → below t v.plane i ≡ false → below t (set v.plane q max_f32) i ≡ false
  set_stays i h = ⊎_elim
      (λ e. rw e set_high)
      (λ e. ap (λ (x : Float). lt x t) (get_or-set_other v.plane q i max_f32 nan e) ∙ h)
      (cases_eq i q)

  claim_high : below t (claimed t q v).plane q ≡ false
  claim_high = ⊎_elim
      (λ e. subst (λ (k : Walk). below t k.plane q ≡ false) (claimed_low t q v e) set_high)
      (λ e. subst (λ (k : Walk). below t k.plane q ≡ false) (claimed_high t q v e) e)
      (cases_Bool (below t v.plane q))

  -- and no sample comes to be below it
  claim_stays : (i : ℕ) → below t v.plane i ≡ false → below t (claimed t q v).plane i ≡ false
  claim_stays i h = ⊎_elim
      (λ e. subst (λ (k : Walk). below t k.plane i ≡ false) (claimed_low t q v e) (set_stays i h))
      (λ e. subst (λ (k : Walk). below t k.plane i ≡ false) (claimed_high t q v e) h)
      (cases_Bool (below t v.plane q))

  -- the same of a neighbour that may lie outside the plane
  if_high : (b : Bool) → b ≡ true → below t (claimed_if t b q v).plane q ≡ false
  unfolding claimed_if
  if_high true e = claim_high
  if_high false e = absurd (false≢true e)

  if_stays : (b : Bool) (i : ℕ) → below t v.plane i ≡ false → below t (claimed_if t b q v).plane i ≡ false
  unfolding claimed_if
  if_stays true i h = claim_stays i h
  if_stays false i h = h

-- ---- the walk

module _ (t : Float) (w : ℕ) (plane₀ : List Float) (s : ℕ) where
  abbrev N : ℕ
  N = length plane₀

  -- below the threshold as the walk began, and not any more
  abbrev marked : Walk → ℕ → Bool
  marked v i = below t plane₀ i && not (below t v.plane i)

  -- every neighbour of p is marked
  abbrev Closed : Walk → ℕ → Type 0
  Closed v p = (i : ℕ) → Beside w p i → below t plane₀ i ≡ true → marked v i ≡ true

  -- f summed over the marked samples that do not wait
  abbrev Sum : Walk → (ℕ → ℕ) → ℕ → Type 0
  Sum v f x = x + list_sum f v.waiting ≡ set_sum (marked v) f N

  -- `held` has the sample whose neighbours are being claimed
  pub record State (held : List ℕ) (v : Walk) (x y count : ℕ) : Type 0 where
    pub long : length v.plane ≡ N
    pub values : (i : ℕ) → get_or v.plane i nan ≡ cond (marked v i) max_f32 (get_or plane₀ i nan)
    pub joined : (i : ℕ) → marked v i ≡ true → Joined w (below t plane₀) s i
    pub waits : (i : ℕ) → Memᴰ i v.waiting → marked v i ≡ true
    pub holds : (i : ℕ) → Memᴰ i held → marked v i ≡ true
    pub closed : (i : ℕ) → marked v i ≡ true → Memᴰ i held ⊎ (Memᴰ i v.waiting ⊎ Closed v i)
    pub sum_x : Sum v (λ i. i % w) x
    pub sum_y : Sum v (λ i. i / w) y
    pub counted : Sum v (λ _. 1) count

  not-marked : (v : Walk) (i : ℕ) → below t v.plane i ≡ true → marked v i ≡ false
  not-marked v i e = and_right (below t plane₀ i) (not (below t v.plane i)) (ap not e)

  -- what is below the threshold was so from the start
  was_low : (v : Walk) (i : ℕ) → get_or v.plane i nan ≡ cond (marked v i) max_f32 (get_or plane₀ i nan) → below t v.plane i ≡ true → below t plane₀ i ≡ true
  was_low v i e low = ap (λ (k : Float). lt k t) (sym (e ∙ ap (λ (b : Bool). cond b max_f32 (get_or plane₀ i nan)) (not-marked v i low))) ∙ low

  -- ---- nothing is marked yet

  abbrev origin : Walk
  origin = record { plane = plane₀; waiting = [] }

  none_marked : (i : ℕ) → marked origin i ≡ false
  none_marked i = ⊎_elim (λ e. not-marked origin i e) (λ e. and_left _ _ e) (cases_Bool (below t plane₀ i))

  no_sum : (f : ℕ → ℕ) → Sum origin f 0
  unfolding list_sum
  no_sum f = sym (set_sum_none (marked origin) f N none_marked)

  State-start : State [] origin 0 0 0
  State-start = record {
    long = refl;
    values = λ i. sym (ap (λ (b : Bool). cond b max_f32 (get_or plane₀ i nan)) (none_marked i));
    joined = λ i m. absurd (false≢true (sym (none_marked i) ∙ m));
    waits = λ i h. absurd (Memᴰ.not-nil h);
    holds = λ i h. absurd (Memᴰ.not-nil h);
    closed = λ i m. absurd (false≢true (sym (none_marked i) ∙ m));
    sum_x = no_sum (λ i. i % w);
    sum_y = no_sum (λ i. i / w);
    counted = no_sum (λ _. 1);
  }

  -- ---- a sample is claimed

  module _ (big : lt max_f32 t ≡ false) (held : List ℕ) (v : Walk) (x y count q : ℕ) (S : State held v x y count) where
    module _ (low : below t v.plane q ≡ true) (j : Joined w (below t plane₀) s q) where
      abbrev v' : Walk
      v' = taken t q v

      inside : q < length v.plane
      inside = below_inside t v.plane q low

      mark : marked v' q ≡ true
      mark = and_intro (was_low v q (S.values q) low) (ap not (set_high t q v big))

      others : (i : ℕ) → (i ≡ q → ⊥) → marked v' i ≡ marked v i
      others i e = ap (λ (k : Float). below t plane₀ i && not (lt k t)) (get_or-set_other v.plane q i max_f32 nan e)

      stays : (i : ℕ) → marked v i ≡ true → marked v' i ≡ true
      stays i m = ⊎_elim (λ e. rw e mark) (λ e. others i e ∙ m) (cases_eq i q)

      was : (i : ℕ) → marked v' i ≡ true → (i ≡ q) ⊎ (marked v i ≡ true)
      was i m = ⊎_elim (λ e. inl e) (λ e. inr (sym (others i e) ∙ m)) (cases_eq i q)

      values' : (i : ℕ) → get_or v'.plane i nan ≡ cond (marked v' i) max_f32 (get_or plane₀ i nan)
      values' i =
          ⊎_elim
          (λ e. rw e (get_or-set_same v.plane q max_f32 nan inside ∙ sym (ap (λ (b : Bool). cond b max_f32 (get_or plane₀ q nan)) mark)))
          (λ e. get_or-set_other v.plane q i max_f32 nan e ∙ S.values i ∙ sym (ap (λ (b : Bool). cond b max_f32 (get_or plane₀ i nan)) (others i e)))
          (cases_eq i q)

      sums : (f : ℕ → ℕ) (z : ℕ) → Sum v f z → Sum v' f z
      sums f z e =
          omega (arith, e, list_sum_more f v.waiting q, set_sum_more (marked v) (marked v') f q (not-marked v q low) mark others N (rw S.long at inside))

      claimed_one : State held v' x y count
      claimed_one = record {
        long = length-set v.plane q max_f32 ∙ S.long;
        values = values';
        joined = λ i m. ⊎_elim (λ e. subst (Joined w (below t plane₀) s) (sym e) j) (λ k. S.joined i k) (was i m);
        waits = λ i h. ⊎_elim (λ k. stays i (S.waits i k)) (λ k. let e = Memᴰ.eq_of_singleton k in rw e mark) (Memᴰ.append_cases v.waiting h);
        holds = λ i h. stays i (S.holds i h);
        closed = λ i m. ⊎_elim
            (λ e. inr (inl (Memᴰ.append_right v.waiting (Memᴰ.head e))))
            (λ k. ⊎_elim
            (λ h. inl h)
            (⊎_elim (λ h. inr (inl (Memᴰ.append_left (q ∷ []) h))) (λ c. inr (inr (λ l b o. stays l (c l b o)))))
            (S.closed i k))
            (was i m);
        sum_x = sums (λ i. i % w) x S.sum_x;
        sum_y = sums (λ i. i / w) y S.sum_y;
        counted = sums (λ _. 1) count S.counted;
      }

    State-claim : (below t v.plane q ≡ true → Joined w (below t plane₀) s q) → State held (claimed t q v) x y count
    State-claim j =
        ⊎_elim
        (λ e. subst (λ (k : Walk). State held k x y count) (claimed_low t q v e) (claimed_one e (j e)))
        (λ e. subst (λ (k : Walk). State held k x y count) (claimed_high t q v e) S)
        (cases_Bool (below t v.plane q))

  -- the seed is claimed
  pub State-begun : lt max_f32 t ≡ false → (v : Walk) → v ≡ claimed t s origin → State [] v 0 0 0 × (below t v.plane s ≡ false)
  State-begun big v e =
      subst (λ (k : Walk). State [] k 0 0 0 × (below t k.plane s ≡ false)) (sym e)
      (State-claim big [] origin 0 0 0 s State-start (λ low. here low), claim_high t s origin big)

  -- ---- a sample that waits is taken up, its neighbours are claimed, and it is done with

  module _ (plane : List Float) (rest : List ℕ) (p x y count : ℕ) (S : State [] (record { plane = plane; waiting = rest ++ (p ∷ []) }) x y count) where
    abbrev up_to_p : Walk
    up_to_p = record { plane = plane; waiting = rest }

    top_marked : marked up_to_p p ≡ true
    top_marked = S.waits p (Memᴰ.append_right rest (Memᴰ.head refl))

    top_inside : p < N
    top_inside = below_inside t plane₀ p (and_parts _ _ top_marked).0

    moved : (f : ℕ → ℕ) (z : ℕ) → Sum (record { plane = plane; waiting = rest ++ (p ∷ []) }) f z → Sum up_to_p f (z + f p)
    moved f z e = omega (arith, e, list_sum_more f rest p)

    State-pop : State (p ∷ []) up_to_p (x + p % w) (y + p / w) (count + 1)
    State-pop = record {
      long = S.long;
      values = S.values;
      joined = S.joined;
      waits = λ i h. S.waits i (Memᴰ.append_left (p ∷ []) h);
      holds = λ i h. let e = Memᴰ.eq_of_singleton h in rw e top_marked;
      closed = λ i m. ⊎_elim
          (λ e. absurd (Memᴰ.not-nil e))
          (⊎_elim (λ h. ⊎_elim (λ k. inr (inl k)) (λ k. inl k) (Memᴰ.append_cases rest h)) (λ c. inr (inr c)))
          (S.closed i m);
      sum_x = moved (λ i. i % w) x S.sum_x;
      sum_y = moved (λ i. i / w) y S.sum_y;
      counted = moved (λ _. 1) count S.counted;
    }

  module _ (big : lt max_f32 t ≡ false) (v : Walk) (p x y count : ℕ) (S : State (p ∷ []) v x y count) where
    State-if : (b : Bool) (q : ℕ) → (b ≡ true → Beside w p q) → State (p ∷ []) (claimed_if t b q v) x y count
    unfolding claimed_if
    State-if true q near = State-claim big (p ∷ []) v x y count q S (λ low. step (S.joined p (S.holds p (Memᴰ.head refl))) (near refl) (was_low v q (S.values q) low))
    State-if false q near = S

    State-close : ((i : ℕ) → i < N → Beside w p i → below t v.plane i ≡ false) → State [] v x y count
    State-close high = record {
      long = S.long;
      values = S.values;
      joined = S.joined;
      waits = S.waits;
      holds = λ i h. absurd (Memᴰ.not-nil h);
      closed = λ i m. ⊎_elim
          (λ h. let e = Memᴰ.eq_of_singleton h in inr (inr (λ l b o. and_intro o (ap not (high l (below_inside t plane₀ l o) (rw e at b))))))
          (λ k. inr k)
          (S.closed i m);
      sum_x = S.sum_x;
      sum_y = S.sum_y;
      counted = S.counted;
    }

  module _ (big : lt max_f32 t ≡ false) (pos : 0 < w) (plane : List Float) (rest : List ℕ) (p x y count : ℕ)
      (S : State [] (record { plane = plane; waiting = rest ++ (p ∷ []) }) x y count) where
    abbrev X : ℕ
    X = x + p % w

    abbrev Y : ℕ
    Y = y + p / w

    abbrev K : ℕ
    K = count + 1

    abbrev v₀ : Walk
    v₀ = record { plane = plane; waiting = rest }

    abbrev left : Bool
    left = ltb 0 (p % w)

    abbrev right : Bool
    right = ltb (p % w + 1) w

    abbrev above : Bool
    above = leb w p

    abbrev under : Bool
    under = ltb (p + w) N

    abbrev v₁ : Walk
    v₁ = claimed_if t left (p - 1) v₀

    abbrev v₂ : Walk
    v₂ = claimed_if t right (p + 1) v₁

    abbrev v₃ : Walk
    v₃ = claimed_if t above (p - w) v₂

    abbrev v₄ : Walk
    v₄ = claimed_if t under (p + w) v₃

    all_claimed : State (p ∷ []) v₄ X Y K
    all_claimed =
        let s₁ = State-if big v₀ p X Y K (State-pop plane rest p x y count S) left (p - 1) (is_left w p pos) in
        let s₂ = State-if big v₁ p X Y K s₁ right (p + 1) (is_right w p pos) in
        let s₃ = State-if big v₂ p X Y K s₂ above (p - w) (is_above w p pos) in
        State-if big v₃ p X Y K s₃ under (p + w) (λ _. down refl)

    none_left : (i : ℕ) → i < N → Beside w p i → below t v₄.plane i ≡ false
    none_left = one_of_four w p pos N (λ i. below t v₄.plane i ≡ false)
        (λ b. if_stays t (p + w) v₃ big under _ (if_stays t (p - w) v₂ big above _ (if_stays t (p + 1) v₁ big right _ (if_high t (p - 1) v₀ big left b))))
        (λ b. if_stays t (p + w) v₃ big under _ (if_stays t (p - w) v₂ big above _ (if_high t (p + 1) v₁ big right b)))
        (λ b. if_stays t (p + w) v₃ big under _ (if_high t (p - w) v₂ big above b))
        (λ b. if_high t (p + w) v₃ big under b)

    State-turn : State [] (claimed_beside t w N p v₀) X Y K
    State-turn = State-close big v₄ p X Y K all_claimed none_left

    -- what is not below the threshold stays so
    turn_stays : (i : ℕ) → below t plane i ≡ false → below t (claimed_beside t w N p v₀).plane i ≡ false
    turn_stays i h =
        if_stays t (p + w) v₃ big under i (if_stays t (p - w) v₂ big above i (if_stays t (p + 1) v₁ big right i (if_stays t (p - 1) v₀ big left i h)))

  -- the same of the worklist, from whose end samples are taken up
  module _ (mat : List Float) (worklist : List ℕ) (pending x y count : ℕ) (S : State [] (walk mat pending worklist) x y count)
      (more : 0 < pending) (fits : pending ≤ length worklist) where
    abbrev p : ℕ
    p = get_or worklist (pending - 1) 0

    abbrev rest : List ℕ
    rest = take (pending - 1) worklist

    apart : State [] (record { plane = mat; waiting = rest ++ (p ∷ []) }) x y count
    apart = subst (λ (l : List ℕ). State [] (record { plane = mat; waiting = l }) x y count) (popped worklist pending more fits) S

    pub walk_inside : p < N
    walk_inside = top_inside mat rest p x y count apart

    pub walk_turn : lt max_f32 t ≡ false → 0 < w → below t mat s ≡ false → (v : Walk) → v ≡ claimed_beside t w (length mat) p (walk mat (pending - 1) worklist)
        → State [] v (x + p % w) (y + p / w) (count + 1) × (below t v.plane s ≡ false)
    walk_turn big pos seed v e =
        subst (λ (k : Walk). State [] k (x + p % w) (y + p / w) (count + 1) × (below t k.plane s ≡ false))
        (sym (e ∙ ap (λ (n : ℕ). claimed_beside t w n p (walk mat (pending - 1) worklist)) S.long))
        (State-turn big pos mat rest p x y count apart, turn_stays big pos mat rest p x y count apart s seed)

  -- ---- nothing waits any more

  module _ (pos : 0 < w) (seed : below t plane₀ s ≡ true) (plane : List Float) (x y count : ℕ) where
    abbrev end : Walk
    end = record { plane = plane; waiting = [] }

    module _ (S : State [] end x y count) (claimed_seed : below t plane s ≡ false) where
      all_marked : {i : ℕ} → Joined w (below t plane₀) s i → marked end i ≡ true
      all_marked (here e) = and_intro e (ap not claimed_seed)
      all_marked (step {p} {i} j b e) = ⊎_elim (λ k. absurd (Memᴰ.not-nil k)) (⊎_elim (λ k. absurd (Memᴰ.not-nil k)) (λ c. c i b e)) (S.closed p (all_marked j))

      found : (i : ℕ) → marked end i ≡ connected t w plane₀ s i
      found i = both_ways (marked end i) (connected t w plane₀ s i)
          (λ m. joined_connected t w pos plane₀ s i (S.joined i m))
          (λ c. all_marked (connected_joined t w pos plane₀ s i c))

      pub done_plane : plane ≡ erased t w plane₀ s
      done_plane = ext_get_or nan plane (erased t w plane₀ s) (S.long ∙ sym (length-tabulate N at)) (λ i h.
          S.values i ∙ ap (λ (b : Bool). cond b max_f32 (get_or plane₀ i nan)) (found i) ∙ sym (get_or-tabulate N at i nan (rw S.long at h)))
        where
          at : ℕ → Float
          at i = cond (connected t w plane₀ s i) max_f32 (get_or plane₀ i nan)

      total : (f : ℕ → ℕ) (z : ℕ) → Sum end f z → z ≡ set_sum (connected t w plane₀ s) f N
      unfolding list_sum
      total f z e = let q : z ≡ set_sum (marked end) f N = omega arith in q ∙ set_sum_same (marked end) (connected t w plane₀ s) f N found

      pub done_row : record { x = x; y = y; count = count } ≡ row_of t w plane₀ s
      done_row = λ j. record {
        x = total (λ i. i % w) x S.sum_x j;
        y = total (λ i. i / w) y S.sum_y j;
        count = total (λ _. 1) count S.counted j;
      }

  -- ---- no sum leaves a u64, and no more samples wait than there are

  module _ (v : Walk) (x y count : ℕ) (S : State [] v x y count) where
    pub x_bound : 0 < w → w ≤ 4096 → x ≤ N * 4096
    x_bound pos small = omega (arith, S.sum_x, set_sum-le (marked v) (λ i. i % w) 4096 N (λ i h. omega (arith, mod-lt i pos)))

    pub y_bound : N ≤ 16777216 → y ≤ N * 16777216
    y_bound small = omega (arith, S.sum_y, set_sum-le (marked v) (λ i. i / w) 16777216 N (λ i h. omega (arith, div-le_self i w)))

    pub room : count + length v.waiting ≤ N
    room = omega (arith, S.counted, set_sum-le (marked v) (λ _. 1) 1 N (λ i h. omega arith), mul-one N, list_sum_ones v.waiting)
