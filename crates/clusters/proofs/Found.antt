-- The clusters, taken one after the other, come to `found_before`: a cluster's connected set is the same before and after the clusters
-- before it are marked, since two connected sets that share no sample do not touch each other. Assumes nothing.
use mathlib.Core.Path.{◌≡◌, refl, sym, ap, ◌∙◌, subst}
use mathlib.Core.Logic.{◌⊎◌, inl, inr, ⊎_elim}
use mathlib.Core.Bool.{Bool, true, false, not, ◌&&◌, ◌||◌, cond, or-false, true≢false, false≢true}
use mathlib.Mathlib.Data.Bool.Basic.{and_intro, or_inl}
use mathlib.Core.List.{List, [], ◌∷◌, ◌++◌, append-nil}
use Prim.Native.Nat.{ℕ, zero, suc, ◌+◌, ◌%◌, ◌/◌, ◌≤◌, ◌<◌}
use native.Mathlib.Nat.{add-zero, add-suc}
use native.Mathlib.Omega.{arith}
use lib.ListN.{length, get_or, length-append}
use lib.Seq.{ext_get_or}
use lib.Ieee.{Float, nan, lt}
use Rattle.lists.specs.Each.{any}
use Rattle.lists.specs.Tab.{tabulate}
use Rattle.std.proofs.lemmas.Bool.{and_parts, and_left, and_right, or_cases, cases_Bool}
use Rattle.std.specs.Cmp.{both_ways}
use Rattle.lists.proofs.Bools.{overlay}
use Rattle.lists.proofs.Each.{any_found, any_from}
use Rattle.lists.proofs.Tab.{length-tabulate, get_or-tabulate}
use Rattle.clusters.specs.declared.Row.{Row}
use Rattle.clusters.specs.Connected.{below, connected}
use Rattle.clusters.specs.Clusters.{border, max_f32, sum_over, row_of, written, seed, clustered, first, rows_of, marked, Found, found_before}
use Rattle.clusters.specs.Walk.{erased, put}
use Rattle.clusters.proofs.Members.{set_sum, set_sum_same}
use Rattle.clusters.proofs.Joined.{Joined, here, step, Joined-trans, Joined-sym, Joined-more}
use Rattle.clusters.proofs.Connected.{below_inside, connected_joined, joined_connected}
use Rattle.clusters.proofs.Rows.{written_more}

found_path : {a a' : List Float} {b b' : List ℕ} {c c' : ℕ} → a ≡ a' → b ≡ b' → c ≡ c'
    → ◌≡◌ {A = Found} (record { plane = a; rows = b; total = c }) (record { plane = a'; rows = b'; total = c' })
found_path x y z = λ j. record { plane = x j; rows = y j; total = z j }

module _ (t : Float) (w h : ℕ) (pos : 0 < w) (plane : List Float) (big : lt max_f32 t ≡ false) where
  abbrev N : ℕ
  N = length plane

  abbrev J : ℕ → ℕ → Type 0
  J = Joined w (below t plane)

  abbrev CL : ℕ → ℕ → Bool
  CL = clustered t w h plane

  abbrev M : ℕ → List Float
  M = marked t w h plane

  abbrev at : ℕ → ℕ → Float
  at k i = cond (CL k i) max_f32 (get_or plane i nan)

  -- ---- the plane with the clusters before place k marked

  length-marked : (k : ℕ) → length (M k) ≡ N
  length-marked k = length-tabulate N (at k)

  get_or-marked : (k i : ℕ) → i < N → get_or (M k) i nan ≡ at k i
  get_or-marked k i b = get_or-tabulate N (at k) i nan b

  stays_low : (k i : ℕ) → below t plane i ≡ true → CL k i ≡ false → below t (M k) i ≡ true
  stays_low k i l c =
      ap (λ (v : Float). lt v t) (get_or-marked k i (below_inside t plane i l) ∙ ap (λ (b : Bool). cond b max_f32 (get_or plane i nan)) c) ∙ l

  was_low : (k i : ℕ) → below t (M k) i ≡ true → (below t plane i ≡ true) × (CL k i ≡ false)
  was_low k i l =
      let b : i < N = subst (λ (n : ℕ). i < n) (length-marked k) (below_inside t (M k) i l) in
      let v : (x : Bool) → CL k i ≡ x → lt (cond x max_f32 (get_or plane i nan)) t ≡ true = λ x c.
      ap (λ (v : Float). lt v t) (sym (get_or-marked k i b ∙ ap (λ (y : Bool). cond y max_f32 (get_or plane i nan)) c)) ∙ l in
      ⊎_elim (λ c. absurd (false≢true (sym big ∙ v true c))) (λ c. (v false c, c)) (cases_Bool (CL k i))

  -- ---- rows

  no_row : (k : ℕ) → first t w h plane k ≡ false → rows_of t w h plane (suc k) ≡ rows_of t w h plane k
  unfolding rows_of
  no_row k f =
      ap (λ (b : Bool). rows_of t w h plane k ++ cond b (row_of t w plane k ∷ []) []) f ∙ append-nil (rows_of t w h plane k)

  one_row : (k : ℕ) → first t w h plane k ≡ true → rows_of t w h plane (suc k) ≡ rows_of t w h plane k ++ (row_of t w plane k ∷ [])
  unfolding rows_of
  one_row k f = ap (λ (b : Bool). rows_of t w h plane k ++ cond b (row_of t w plane k ∷ []) []) f

  -- ---- who is in a cluster

  seed_is : (k : ℕ) → border w h k ≡ false → below t plane k ≡ true → seed t w h plane k ≡ true
  unfolding seed
  seed_is k e l = and_intro (ap not e) l

  not-seed : (k : ℕ) → (border w h k ≡ true) ⊎ (below t plane k ≡ false) → seed t w h plane k ≡ false
  unfolding seed
  not-seed k (inl e) = and_left _ _ (ap not e)
  not-seed k (inr e) = and_right (not (border w h k)) (below t plane k) e

  first_is : (k : ℕ) → seed t w h plane k ≡ true → CL k k ≡ false → first t w h plane k ≡ true
  unfolding first
  first_is k d c = and_intro d (ap not c)

  not-first : (k : ℕ) → (seed t w h plane k ≡ false) ⊎ (CL k k ≡ true) → first t w h plane k ≡ false
  unfolding first
  not-first k (inl d) = and_left _ _ d
  not-first k (inr c) = and_right (seed t w h plane k) (not (CL k k)) (ap not c)

  clustered_found : (k s i : ℕ) → s < k → seed t w h plane s ≡ true → connected t w plane s i ≡ true → CL k i ≡ true
  unfolding clustered
  clustered_found k s i b d c = any_found k s (λ s. seed t w h plane s && connected t w plane s i) b (and_intro d c)

  clustered_from : (k i : ℕ) → CL k i ≡ true → (s : ℕ) × (s < k) × (seed t w h plane s ≡ true) × J s i
  unfolding clustered
  clustered_from k i c =
      let q = any_from k (λ s. seed t w h plane s && connected t w plane s i) c in
      let r = and_parts (seed t w h plane q.0) (connected t w plane q.0 i) q.2 in
      (q.0, q.1, r.0, connected_joined t w pos plane q.0 i r.1)

  clustered_more : (k i : ℕ) → CL (suc k) i ≡ CL k i || (seed t w h plane k && connected t w plane k i)
  unfolding clustered any
  clustered_more k i = refl

  -- what is joined to a clustered sample is clustered too
  spreads : (k a i : ℕ) → CL k a ≡ true → J a i → CL k i ≡ true
  spreads k a i c j =
      let q = clustered_from k a c in
      clustered_found k q.0 i q.1 q.2 (joined_connected t w pos plane q.0 i (Joined-trans q.3 j))

  -- ---- the connected set of a sample that is in no cluster yet

  module _ (k : ℕ) (c : CL k k ≡ false) where
    free : (i : ℕ) → J k i → CL k i ≡ false
    free i j = ⊎_elim (λ x. absurd (true≢false (sym (spreads k i k x (Joined-sym j)) ∙ c))) (λ x. x) (cases_Bool (CL k i))

    keep : {i : ℕ} → J k i → Joined w (below t (M k)) k i
    keep (here e) = here (stays_low k k e c)
    keep (step {p} {i} y b e) = step (keep y) b (stays_low k i e (free i (step y b e)))

    same_connected : (i : ℕ) → connected t w (M k) k i ≡ connected t w plane k i
    same_connected i = both_ways (connected t w (M k) k i) (connected t w plane k i)
        (λ a. joined_connected t w pos plane k i (Joined-more (λ j e. (was_low k j e).0) (connected_joined t w pos (M k) k i a)))
        (λ a. joined_connected t w pos (M k) k i (keep (connected_joined t w pos plane k i a)))

    same_sum : (f : ℕ → ℕ) → sum_over t w (M k) k f ≡ sum_over t w plane k f
    same_sum f =
        set_sum_same (connected t w (M k) k) (connected t w plane k) f (length (M k)) same_connected
        ∙ ap (set_sum (connected t w plane k) f) (length-marked k)

    same_row : row_of t w (M k) k ≡ row_of t w plane k
    same_row = λ j. record { x = same_sum (λ i. i % w) j; y = same_sum (λ i. i / w) j; count = same_sum (λ _. 1) j }

  -- ---- one place more

  module _ (rows : List ℕ) where
    abbrev F : ℕ → Found
    F = found_before t w h plane rows

    abbrev R : ℕ → List Row
    R = rows_of t w h plane

    -- nothing is found
    nothing : (k : ℕ) → first t w h plane k ≡ false → ((i : ℕ) → CL (suc k) i ≡ CL k i) → F k ≡ F (suc k)
    nothing k f c = found_path same_plane (ap (λ (l : List Row). written l rows) same_rows) (ap (λ (l : List Row). length l) same_rows)
      where
        same_plane : M k ≡ M (suc k)
        same_plane = ap (λ (m : ℕ → Bool). tabulate N (λ i. cond (m i) max_f32 (get_or plane i nan))) (λ j i. sym (c i) j)

        same_rows : R k ≡ R (suc k)
        same_rows = sym (no_row k f)

    no_seed : (k : ℕ) → seed t w h plane k ≡ false → F k ≡ F (suc k)
    no_seed k d = nothing k (not-first k (inl d)) (λ i. clustered_more k i ∙ ap (λ (b : Bool). CL k i || (b && connected t w plane k i)) d ∙ or-false (CL k i))

    -- its cluster is known already
    known : (k : ℕ) → CL k k ≡ true → F k ≡ F (suc k)
    known k c = nothing k (not-first k (inr c)) (λ i. clustered_more k i ∙ both_ways (CL k i || (seed t w h plane k && connected t w plane k i)) (CL k i)
        (λ a. ⊎_elim (λ x. x) (λ x. spreads k k i c (connected_joined t w pos plane k i (and_parts (seed t w h plane k) (connected t w plane k i) x).1)) (or_cases (CL k i) _ a))
        (λ a. or_inl (CL k i) _ a))

    skip : (k : ℕ) → (border w h k ≡ true) ⊎ (below t (M k) k ≡ false) → F k ≡ F (suc k)
    skip k (inl e) = no_seed k (not-seed k (inl e))
    skip k (inr e) = ⊎_elim
        (λ c. known k c)
        (λ c. ⊎_elim (λ l. absurd (true≢false (sym (stays_low k k l c) ∙ e))) (λ l. no_seed k (not-seed k (inr l))) (cases_Bool (below t plane k)))
        (cases_Bool (CL k k))

    -- a new cluster
    module _ (k : ℕ) (e : border w h k ≡ false) (l : below t (M k) k ≡ true) where
      low : below t plane k ≡ true
      low = (was_low k k l).0

      fresh : CL k k ≡ false
      fresh = (was_low k k l).1

      is_seed : seed t w h plane k ≡ true
      is_seed = seed_is k e low

      new_rows : R (suc k) ≡ R k ++ (row_of t w (M k) k ∷ [])
      new_rows = one_row k (first_is k is_seed fresh) ∙ ap (λ (row : Row). R k ++ (row ∷ [])) (sym (same_row k fresh))

      new_plane : M (suc k) ≡ erased t w (M k) k
      new_plane = ext_get_or nan (M (suc k)) (erased t w (M k) k)
          (length-marked (suc k) ∙ sym (length-marked k) ∙ sym (length-tabulate (length (M k)) (λ i. cond (connected t w (M k) k i) max_f32 (get_or (M k) i nan))))
          (λ i b.
          let x : i < N = subst (λ (n : ℕ). i < n) (length-marked (suc k)) b in
          get_or-marked (suc k) i x
          ∙ ap (λ (b : Bool). cond b max_f32 (get_or plane i nan)) (clustered_more k i ∙ ap (λ (d : Bool). CL k i || (d && connected t w plane k i)) is_seed)
          ∙ sym (overlay (CL k i) (connected t w plane k i) max_f32 max_f32 (get_or plane i nan) (λ e. refl))
          ∙ ap (λ (v : Float). cond (connected t w plane k i) max_f32 v) (sym (get_or-marked k i x))
          ∙ ap (λ (b : Bool). cond b max_f32 (get_or (M k) i nan)) (sym (same_connected k fresh i))
          ∙ sym (get_or-tabulate (length (M k)) (λ i. cond (connected t w (M k) k i) max_f32 (get_or (M k) i nan)) i nan (subst (λ (n : ℕ). i < n) (sym (length-marked k)) x)))

      new : F (suc k) ≡ record { plane = erased t w (M k) k; rows = put (F k).rows (F k).total (row_of t w (M k) k); total = (F k).total + 1 }
      new = found_path new_plane
          (ap (λ (l : List Row). written l rows) new_rows ∙ written_more (R k) (row_of t w (M k) k) rows)
          (ap (λ (l : List Row). length l) new_rows ∙ length-append (R k) (row_of t w (M k) k ∷ []))

    -- ---- what the scan keeps

    pub found_none : record { plane = plane; rows = rows; total = 0 } ≡ F 0
    unfolding written rows_of clustered any
    found_none = found_path (ext_get_or nan plane (M 0) (sym (length-marked 0)) (λ i b. sym (get_or-marked 0 i b))) refl refl

    -- no sample from a on and before a + d is one to find
    pub found_skip : (f : Found) (a d : ℕ) → f ≡ F a → ((i : ℕ) → a ≤ i → i < a + d → (border w h i ≡ true) ⊎ (below t f.plane i ≡ false)) → f ≡ F (a + d)
    found_skip f a zero e n = rw add-zero e
    found_skip f a (suc d) e n =
        let g : f ≡ F (a + d) = found_skip f a d e (λ i l m. n i l (omega arith)) in
        rw add-suc (g ∙ skip (a + d) (⊎_elim (λ b. inl b) (λ b. inr (subst (λ (x : Found). below t x.plane (a + d) ≡ false) g b)) (n (a + d) (omega arith) (omega arith))))

    pub found_new : (f : Found) (k : ℕ) → f ≡ F k → border w h k ≡ false → below t f.plane k ≡ true
        → (p : List Float) (rs : List ℕ) (row : Row) → p ≡ erased t w f.plane k → row ≡ row_of t w f.plane k → rs ≡ put f.rows f.total row
        → record { plane = p; rows = rs; total = f.total + 1 } ≡ F (suc k)
    found_new f k e b l p rs row ep er es =
        found_path ep (es ∙ ap (put f.rows f.total) er) refl
        ∙ ap (λ (g : Found). record { plane = erased t w g.plane k; rows = put g.rows g.total (row_of t w g.plane k); total = g.total + 1 }) e
        ∙ sym (new k b (subst (λ (g : Found). below t g.plane k ≡ true) e l))
