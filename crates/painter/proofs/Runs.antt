-- Runs of numbers, and the loops that write a run of bytes. Assumes nothing.
use mathlib.Core.Path.{◌≡◌, refl, sym, ap, ap₂, ◌∙◌}
use mathlib.Core.Bool.{Bool, true, false, ◌&&◌, ◌||◌, cond}
use mathlib.Core.List.{List}
use Prim.Native.Nat.{ℕ, ◌+◌, ◌-◌, ◌<◌, ◌≤◌}
use native.Mathlib.Nat.{add_assoc}
use native.Mathlib.Omega.{arith}
use borrow.Author.Tests.{lt-ltb, le-ltb, le-leb, lt-leb, ltb-true, ltb-false, leb-true}
use lib.Dec.{ltb, leb}
use lib.ListN.{length, get_or}
use lib.Seq.{ext_get_or}
use borrow.Author.Rules.{rules}
use borrow.Rule.Slice.PartMut.{put_mid}
use Rattle.std.proofs.lemmas.Grind.{common_steps}
use Rattle.std.proofs.lemmas.List.{places}
use Rattle.lists.specs.Tab.{tabulate}
use Rattle.lists.proofs.Tab.{length-tabulate, get_or-tabulate}
use Rattle.std.specs.Cmp.{first_so, second_so}
use Rattle.lists.proofs.Bools.{overlay}
use Rattle.painter.specs.Picture.{between, run_written}

-- ---- what the test of a run says

pub record Within (x0 n x : ℕ) : Type 0 where
  pub from : x0 ≤ x
  pub to : x < x0 + n

pub is_within : (x0 n x : ℕ) → between x0 n x ≡ true → Within x0 n x
is_within x0 n x e =
    record { from = leb-true x0 x (first_so (leb x0 x) (ltb x (x0 + n)) e); to = ltb-true x (x0 + n) (second_so (leb x0 x) (ltb x (x0 + n)) e) }

pub within : (x0 n x : ℕ) → x0 ≤ x → x < x0 + n → between x0 n x ≡ true
within x0 n x h l = ap₂ ◌&&◌ (le-leb x0 x h) (lt-ltb x (x0 + n) l)

pub before_run : (x0 n x : ℕ) → x < x0 → between x0 n x ≡ false
before_run x0 n x h = simp (lt-leb x0 x h)

pub after_run : (x0 n x : ℕ) → x0 + n ≤ x → between x0 n x ≡ false
after_run x0 n x h = let l : x0 ≤ x = omega arith in simp (le-leb x0 x l, le-ltb x (x0 + n) h)

-- a run of none
pub between_none : (x0 x : ℕ) → between x0 0 x ≡ false
between_none x0 x = go (ltb x x0) refl
  where
    go : (t : Bool) → ltb x x0 ≡ t → between x0 0 x ≡ false
    go true e = before_run x0 0 x (ltb-true x x0 e)
    go false e = let h = ltb-false x x0 e in after_run x0 0 x (omega arith)

-- one run after another
pub between_more : (x0 n m x : ℕ) → between x0 (n + m) x ≡ between x0 n x || between (x0 + n) m x
between_more x0 n m x = go (ltb x x0) refl (ltb x (x0 + n)) refl
  where
    go : (t : Bool) → ltb x x0 ≡ t → (u : Bool) → ltb x (x0 + n) ≡ u → between x0 (n + m) x ≡ between x0 n x || between (x0 + n) m x
    go true e u f =
        let h = ltb-true x x0 e in
        before_run x0 (n + m) x h ∙ sym (ap₂ ◌||◌ (before_run x0 n x h) (before_run (x0 + n) m x (omega arith)))
    go false e true f =
        let h = ltb-false x x0 e in
        let l = ltb-true x (x0 + n) f in
        within x0 (n + m) x h (omega arith) ∙ sym (ap (λ (b : Bool). b || between (x0 + n) m x) (within x0 n x h l))
    go false e false f =
        let h = ltb-false x x0 e in
        let l = ltb-false x (x0 + n) f in
        ap₂ (λ (b : Bool) (k : ℕ). b && ltb x k) (le-leb x0 x h) (sym (add_assoc x0 n m))
        ∙ sym (ap₂ (λ (a b : Bool). a || (b && ltb x (x0 + n + m))) (after_run x0 n x l) (le-leb (x0 + n) x l))

-- ---- bytes

-- a list with these elements is the table of them
pub tabulated : (f : ℕ → ℕ) (n : ℕ) (l : List ℕ) → length l ≡ n → ((k : ℕ) → k < n → get_or l k 0 ≡ f k) → l ≡ tabulate n f
tabulated f n l e h =
    ext_get_or 0 l (tabulate n f) (e ∙ sym (length-tabulate n f))
    (λ k b. let b' : k < n = omega arith in h k b' ∙ sym (get_or-tabulate n f k 0 b'))

module _ (start : ℕ) (new : ℕ → ℕ) (bytes : List ℕ) where
  -- byte k, after n of the run are written
  abbrev byte : (n k : ℕ) → ℕ
  byte n k = cond (between start n k) (new (k - start)) (get_or bytes k 0)

  pub length_run : (n : ℕ) → length (run_written start n new bytes) ≡ length bytes
  length_run n = length-tabulate (length bytes) (byte n)

  pub byte_run : (n k : ℕ) → k < length bytes → get_or (run_written start n new bytes) k 0 ≡ byte n k
  byte_run n k h = get_or-tabulate (length bytes) (byte n) k 0 h

  -- nothing is written yet
  pub run_none : bytes ≡ run_written start 0 new bytes
  run_none = tabulated (byte 0) (length bytes) bytes refl (λ k b. sym (ap (λ (t : Bool). cond t (new (k - start)) (get_or bytes k 0)) (between_none start k)))

  -- the run is written as one part of the bytes
  pub part_written : (k n : ℕ) (ys : List ℕ) → k ≡ n → start + n ≤ length bytes → length ys ≡ n → ((i : ℕ) → i < n → get_or ys i 0 ≡ new i)
      → put_mid start k bytes ys ≡ run_written start n new bytes
  part_written k n ys e h l is =
      tabulated (byte n) (length bytes) (put_mid start k bytes ys) (grind (arith, common_steps)) (λ i b. at i b (ltb i start) refl (ltb i (start + n)) refl)
    where
      at : (i : ℕ) → i < length bytes → (t : Bool) → ltb i start ≡ t → (u : Bool) → ltb i (start + n) ≡ u → get_or (put_mid start k bytes ys) i 0 ≡ byte n i
      at i b true q u r =
          let p = ltb-true i start q in
          (let q : get_or (put_mid start k bytes ys) i 0 ≡ get_or bytes i 0 = search (rules, places) in q)
          ∙ sym (ap (λ (t : Bool). cond t (new (i - start)) (get_or bytes i 0)) (before_run start n i p))
      at i b false q true r =
          let p = ltb-false i start q in
          let m = ltb-true i (start + n) r in
          (let q : get_or (put_mid start k bytes ys) i 0 ≡ get_or ys (i - start) 0 = search (rules, places) in q)
          ∙ is (i - start) (omega arith)
          ∙ sym (ap (λ (t : Bool). cond t (new (i - start)) (get_or bytes i 0)) (within start n i p m))
      at i b false q false r =
          let m = ltb-false i (start + n) r in
          (let q : get_or (put_mid start k bytes ys) i 0 ≡ get_or bytes i 0 = search (rules, places) in q)
          ∙ sym (ap (λ (t : Bool). cond t (new (i - start)) (get_or bytes i 0)) (after_run start n i m))

-- ---- runs from the first byte on

module _ (new : ℕ → ℕ) (bytes : List ℕ) where
  abbrev front : (n k : ℕ) → ℕ
  front n k = cond (between 0 n k) (new k) (get_or bytes k 0)

  front_run : (n k : ℕ) → k < length bytes → get_or (run_written 0 n new bytes) k 0 ≡ front n k
  front_run n k h = byte_run 0 new bytes n k h ∙ ap (λ (i : ℕ). cond (between 0 n k) (new i) (get_or bytes k 0)) (omega arith)

  -- a list with these bytes is the run, and m bytes more of it
  is_front : (n m : ℕ) (l : List ℕ) → length l ≡ length bytes
      → ((k : ℕ) → k < length bytes → get_or l k 0 ≡ cond (between 0 n k || between n m k) (new k) (get_or bytes k 0)) → l ≡ run_written 0 (n + m) new bytes
  is_front n m l e h =
      ext_get_or 0 l (run_written 0 (n + m) new bytes) (e ∙ sym (length_run 0 new bytes (n + m)))
      (λ k b.
      let b' : k < length bytes = omega arith in
      let more : between 0 (n + m) k ≡ between 0 n k || between n m k = between_more 0 n m k ∙ ap (λ (i : ℕ). between 0 n k || between i m k) (omega arith) in
      h k b' ∙ ap (λ (t : Bool). cond t (new k) (get_or bytes k 0)) (sym more) ∙ sym (front_run (n + m) k b'))

  -- m bytes more are written, by another run
  pub run_further : (n m : ℕ) (other : ℕ → ℕ) → ((k : ℕ) → Within n m k → other (k - n) ≡ new k)
      → run_written n m other (run_written 0 n new bytes) ≡ run_written 0 (n + m) new bytes
  run_further n m other h =
      let out = run_written 0 n new bytes in
      is_front n m (run_written n m other out) (length_run n other out m ∙ length_run 0 new bytes n)
      (λ k b.
      byte_run n other out m k (rw length_run b)
      ∙ ap (λ (old : ℕ). cond (between n m k) (other (k - n)) old) (front_run n k b)
      ∙ overlay (between 0 n k) (between n m k) (new k) (other (k - n)) (get_or bytes k 0) (λ t. h k (is_within n m k t)))

  -- m bytes more are as they should be
  pub run_as_is : (n m : ℕ) → ((k : ℕ) → k < length bytes → Within n m k → get_or bytes k 0 ≡ new k) → run_written 0 n new bytes ≡ run_written 0 (n + m) new bytes
  run_as_is n m h =
      is_front n m (run_written 0 n new bytes) (length_run 0 new bytes n)
      (λ k b. front_run n k b ∙ either (between 0 n k) (between n m k) (new k) (get_or bytes k 0) (λ t. h k b (is_within n m k t)))
    where
      either : (a b : Bool) (s old : ℕ) → (b ≡ true → old ≡ s) → cond a s old ≡ cond (a || b) s old
      either true b s old e = refl
      either false true s old e = e refl
      either false false s old e = refl

  -- all bytes are written
  pub run_all : (n : ℕ) → length bytes ≡ n → run_written 0 n new bytes ≡ tabulate n new
  run_all n e =
      tabulated new n (run_written 0 n new bytes) (length_run 0 new bytes n ∙ e)
      (λ k b. front_run n k (rw e b) ∙ ap (λ (t : Bool). cond t (new k) (get_or bytes k 0)) (within 0 n k (omega arith) (omega arith)))
