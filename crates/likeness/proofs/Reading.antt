-- Demand 3 on words: with a table that passes the likeness check, at most one code is near a word, in one turn.
-- So a word near a code, in any turn of it, is read as that code at that turn, with as many differing modules as tell them apart, and the four
-- turns of any word are read alike.
-- Assumes nothing.
use mathlib.Core.Path.{◌≡◌, refl, sym, ap, ap₂, ◌∙◌, subst}
use mathlib.Core.Bool.{Bool, true, false}
use mathlib.Core.List.{List}
use Prim.Native.Nat.{ℕ, zero, suc, ◌+◌, ◌-◌, ◌*◌, ◌%◌, ◌^◌, ◌≤◌, ◌<◌, suc-le-suc}
use native.Mathlib.Nat.{le_refl, not-suc-le-zero, zero-lt-suc, zero-add, add-zero}
use native.Mathlib.Decide.{ℕ_discrete}
use native.Mathlib.Omega.{arith}
use borrow.Author.Tests.{ltb-true, ltb-false, leb-true, leb-false}
use lib.Dec.{ltb, leb}
use lib.ListN.{length, get_or}
use Rattle.refusals.specs.Outcome.{Outcome, accepted, refused}
use Rattle.word.specs.Word.{turn, turns, differing}
use Rattle.word.proofs.Turn.{turn-lt, turns-lt, turns-add, turns_past_four}
use Rattle.word.proofs.Differing.{triangle, differing_comm, turned_alike}
use Rattle.tables.proofs.Table.{Codes}
use Rattle.search.specs.Search.{fewest, first_at, Seen, search_from, search}
use Rattle.search.proofs.Closest.{fewest-le, fewest_is, fewest_first}
use Rattle.search.proofs.Search.{hit, miss, none_left, Means, search_means}
use Rattle.likeness.specs.Start.{turn_less, seen_from}
use Rattle.likeness.proofs.Apart.{Unlike}

module _ (e t : ℕ) (codes : List ℕ) (table : Codes e t codes) (far : Unlike e t codes) where
  abbrev code : ℕ → ℕ
  code k = get_or codes k 0

  abbrev Square : ℕ → Type 0
  Square w = w < 2 ^ (e * e)

  -- two codes cannot both be near w, one of them after q turns of it
  clash : (q w i j : ℕ) → q < 4 → Square w → i < length codes → j < length codes → (i ≡ j → q ≡ 0 → ⊥)
      → differing w (get_or codes i 0) < t → differing (turns e q w) (get_or codes j 0) < t → ⊥
  unfolding turns
  clash q w i j hq hw hi hj ne a b =
      let x = code i in
      let y = code j in
      let sx = table.small i hi in
      let p : differing (turns e q w) (turns e q x) ≡ differing w x = turned_alike e table.edges.most q w x hw sx in
      let tri = triangle 64 (turns e q x) (turns e q w) y in
      let sw = differing_comm 64 (turns e q x) (turns e q w) in
      let f : 2 * t - 1 ≤ differing (turns e q x) y = far.far i j q 0 hi hj hq (zero-lt-suc 3) ne in
      omega arith

  -- the word is near code id: that code is found at once, and its distance is the fewest
  at_once : (w id : ℕ) → Square w → id < length codes → differing w (get_or codes id 0) < t → (fewest w codes < t) × (first_at w (fewest w codes) codes ≡ id) × (fewest w codes ≡ differing w (get_or codes id 0))
  unfolding turns
  at_once w id hw hid h =
      let less : fewest w codes < t = omega (arith, fewest-le w codes id hid) in
      let f = fewest_first w codes (omega (arith, table.near.most)) in
      let at = first_at w (fewest w codes) codes in
      let is = same at f.inside (omega (arith, f.amount)) (ℕ_discrete at id) in
      (less, is, sym f.amount ∙ ap (λ (k : ℕ). differing w (get_or codes k 0)) is)
    where
      same : (k : ℕ) → k < length codes → differing w (get_or codes k 0) < t → Dec (k ≡ id) → k ≡ id
      same k hk n (yes p) = p
      same k hk n (no ne) = absurd (clash 0 w k id (zero-lt-suc 3) hw hk hid (λ p z. ne p) n h)

  -- the word is near code id after q turns: in none of its earlier turns is any code near
  not_yet : (q w id : ℕ) → suc q < 4 → Square w → id < length codes → differing (turns e (suc q) w) (get_or codes id 0) < t → t ≤ fewest w codes
  not_yet q w id hq hw hid h = go (ltb (fewest w codes) t) refl
    where
      go : (x : Bool) → ltb (fewest w codes) t ≡ x → t ≤ fewest w codes
      go false x = ltb-false (fewest w codes) t x
      go true x =
          let less = ltb-true (fewest w codes) t x in
          let f = fewest_first w codes (omega (arith, table.near.most)) in
          absurd (clash (suc q) w (first_at w (fewest w codes) codes) id hq hw f.inside hid (λ p z. omega arith) (omega (arith, f.amount)) h)

  -- code id, seen at turn k of a word that has been turned into v
  abbrev own : ℕ → ℕ → ℕ → Outcome Seen
  own id k v = accepted (record { id = id; turn = k; differing = differing v (get_or codes id 0) })

  reads : (n r q w id : ℕ) → q < n → n ≤ 4 → Square w → id < length codes → differing (turns e q w) (get_or codes id 0) < t
      → search_from t codes e n r w ≡ own id (r + q) (turns e q w)
  unfolding turns
  reads zero r q w id hq hn hw hid h = absurd (not-suc-le-zero hq)
  reads (suc n) r zero w id hq hn hw hid h =
      let f = at_once w id hw hid h in
      hit t codes e n r w f.0 ∙ λ j. accepted (record { id = f.1 j; turn = sym (add-zero r) j; differing = f.2 j })
  reads (suc n) r (suc q) w id hq hn hw hid h =
      miss t codes e n r w (not_yet q w id (omega arith) hw hid h)
      ∙ reads n (suc r) q (turn e w) id (omega arith) (omega arith) (turn-lt e w) hid h
      ∙ ap (λ (k : ℕ). own id k (turns e q (turn e w))) (omega arith)

  -- a word that is near code id after q turns is read as that code at that turn, with the bits in which they differ
  pub near_read : (w q id : ℕ) → Square w → q < 4 → id < length codes → differing (turns e q w) (get_or codes id 0) < t
      → search w t codes e ≡ accepted (record { id = id; turn = q; differing = differing (turns e q w) (get_or codes id 0) })
  near_read w q id hw hq hid h = reads 4 0 q w id hq (le_refl 4) hw hid h ∙ ap (λ (k : ℕ). own id k (turns e q w)) (zero-add q)

  -- no code is near in four turns: the word is not read
  far_unread : (n r w : ℕ) → ((p : ℕ) → p < n → (k : ℕ) → k < length codes → t ≤ differing (turns e p w) (get_or codes k 0)) → search_from t codes e n r w ≡ refused 13
  unfolding turns
  far_unread zero r w h = none_left t codes e r w
  far_unread (suc n) r w h =
      miss t codes e n r w (fewest_is w t codes (omega (arith, table.near.most)) (h 0 (zero-lt-suc n))) ∙ far_unread n (suc r) (turn e w) (λ p l. h (suc p) (suc-le-suc l))

  -- s turns of w, turned on until the turn q of w is reached
  reached : (s q w : ℕ) → s < 4 → q < 4 → Square w → turns e (turn_less s q) (turns e s w) ≡ turns e q w
  reached s q w hs hq hw = sym (turns-add e s (turn_less s q) w) ∙ go (leb s q) refl
    where
      go : (x : Bool) → leb s q ≡ x → turns e (s + turn_less s q) w ≡ turns e q w
      go true x =
          let l = leb-true s q x in
          let m : s + turn_less s q ≡ q = omega arith in
          ap (λ (n : ℕ). turns e n w) m
      go false x =
          let l = leb-false s q x in
          let m : s + turn_less s q ≡ 4 + q = omega arith in
          ap (λ (n : ℕ). turns e n w) m ∙ turns_past_four e q w hw

  -- every turn of s turns of w is a turn of w
  again : (s p w : ℕ) → s < 4 → p < 4 → Square w → turns e p (turns e s w) ≡ turns e ((s + p) % 4) w
  again s p w hs hp hw = sym (turns-add e s p w) ∙ go (leb 4 (s + p)) refl
    where
      go : (x : Bool) → leb 4 (s + p) ≡ x → turns e (s + p) w ≡ turns e ((s + p) % 4) w
      go true x =
          let l = leb-true 4 (s + p) x in
          let m : s + p ≡ 4 + (s + p) % 4 = omega arith in
          ap (λ (n : ℕ). turns e n w) m ∙ turns_past_four e ((s + p) % 4) w hw
      go false x =
          let l = leb-false 4 (s + p) x in
          let m : s + p ≡ (s + p) % 4 = omega arith in
          ap (λ (n : ℕ). turns e n w) m

  -- Whatever the word, its four turns are read alike: the same code with as many differing modules, or none.
  pub turned_read : (s w : ℕ) → s < 4 → Square w → search (turns e s w) t codes e ≡ seen_from s (search w t codes e)
  turned_read s w hs hw = go (search w t codes e) (search_means t codes e (omega (arith, table.near.most)) w)
    where
      go : (o : Outcome Seen) → Means t codes e 4 0 w o → search (turns e s w) t codes e ≡ seen_from s o
      go (accepted seen) m =
          let q : seen.turn ≡ m.q = m.turned ∙ zero-add m.q in
          let back = reached s m.q w hs m.in_time hw in
          let d = ap (λ (x : ℕ). differing x (get_or codes seen.id 0)) back ∙ sym m.counted in
          near_read (turns e s w) (turn_less s m.q) seen.id (turns-lt e s w hw) (omega arith) m.code.inside
          (subst (λ (x : ℕ). differing x (get_or codes seen.id 0) < t) (sym back) m.code.near)
          ∙ ap₂ (λ (k x : ℕ). accepted (record { id = seen.id; turn = turn_less s k; differing = x })) (sym q) d
      go (refused n) m =
          far_unread 4 0 (turns e s w) (λ p hp k hk.
          subst (λ (x : ℕ). t ≤ differing x (get_or codes k 0)) (sym (again s p w hs hp hw)) (m.none ((s + p) % 4) (omega arith) k hk))
          ∙ ap refused (sym m.thirteen)
