-- A list that is made of parts of one width, at the front of an output, the loop that writes it there part by part, and
-- the loop that writes some parts anew. Assumes nothing.
use mathlib.Core.Path.{◌≡◌, refl, sym, ap, ◌∙◌}
use mathlib.Core.Bool.{Bool, true, false, cond}
use mathlib.Core.List.{List, [], ◌∷◌, ◌++◌, flat_map, append-nil, append_assoc}
use Prim.Native.Nat.{ℕ, zero, suc, ◌+◌, ◌*◌, ◌≤◌, ◌<◌}
use native.Mathlib.Nat.{mul-zero, mul-suc, not-suc-le-zero, le_of_suc-le-suc, add_comm, zero-add, suc-add, add-suc}
use native.Mathlib.Numerals.{add-one}
use native.Mathlib.Omega.{arith}
use lib.ListN.{length, get_or, take, drop, set, length-append, length-drop, length-set}
use lib.Seq.{sets, sets-eq, take_at, drop_at, drop-drop, drop-append-add, length_front, length-take-le}
use Rattle.lists.specs.Tab.{tabulate}
use Rattle.lists.specs.Front.{in_front}
use Rattle.lists.proofs.Tab.{length-tabulate, kept_more, kept_same, kept_all}

module _ {ℓ} {B : Type ℓ} where
  set_behind : (p x : List B) (i : ℕ) (v : B) → set (p ++ x) (length p + i) v ≡ p ++ set x i v
  set_behind [] x i v = ap (λ (n : ℕ). set x n v) (zero-add i)
  set_behind (a ∷ p) x i v = ap (λ (n : ℕ). set (a ∷ (p ++ x)) n v) (suc-add (length p) i) ∙ ap (λ (y : List B). a ∷ y) (set_behind p x i v)

  -- an output keeps its length
  pub length-in_front : (numbers output : List B) → length numbers ≤ length output → length (in_front numbers output) ≡ length output
  length-in_front numbers output h = length_front output numbers (length numbers) (sym (length-take-le (length numbers) output h))

  -- a run of stores behind a front, and one that covers the front
  sets_behind : (vs p x : List B) (i : ℕ) → sets (p ++ x) (length p + i) vs ≡ p ++ sets x i vs
  sets_behind [] p x i = refl
  sets_behind (v ∷ vs) p x i =
      ap (λ (y : List B). sets y (suc (length p + i)) vs) (set_behind p x i v) ∙ ap (λ (n : ℕ). sets (p ++ set x i v) n vs) (sym (add-suc (length p) i)) ∙ sets_behind vs p (set x i v) (suc i)

  sets_front : (p vs x : List B) → length vs ≡ length p → sets (p ++ x) 0 vs ≡ vs ++ x
  sets_front p vs x e =
      sets-eq vs (p ++ x) 0 (omega (arith, length-append p x))
      ∙ ap (λ (y : List B). vs ++ y) (ap (λ (n : ℕ). drop n (p ++ x)) (zero-add (length vs)) ∙ drop_at p x (length vs) (sym e))

module _ {ℓ κ} {A : Type ℓ} {B : Type κ} (f : A → List B) where
  -- parts of any widths: one more, and that those before are a front of all
  pub flat_more : (n : ℕ) (g : ℕ → A) → flat_map f (tabulate (suc n) g) ≡ flat_map f (tabulate n g) ++ f (g n)
  unfolding flat_map tabulate
  flat_more zero g = append-nil (f (g 0))
  flat_more (suc n) g =
      ap (λ (x : List B). f (g 0) ++ x) (flat_more n (λ i. g (suc i)))
      ∙ sym (append_assoc (f (g 0)) (flat_map f (tabulate n (λ i. g (suc i)))) (f (g (suc n))))

  pub flat_within : (j n : ℕ) (g : ℕ → A) → j ≤ n → length (flat_map f (tabulate j g)) ≤ length (flat_map f (tabulate n g))
  unfolding flat_map tabulate
  flat_within zero n g h = omega arith
  flat_within (suc j) zero g h = absurd (not-suc-le-zero h)
  flat_within (suc j) (suc n) g h =
      let rest : ℕ → List B = λ k. flat_map f (tabulate k (λ i. g (suc i))) in
      omega (arith, flat_within j n (λ i. g (suc i)) (le_of_suc-le-suc h), length-append (f (g 0)) (rest j), length-append (f (g 0)) (rest n))

module _ {ℓ κ} {A : Type ℓ} {B : Type κ} (f : A → List B) (w : ℕ) (wide : (a : A) → length (f a) ≡ w) where
  pub length_flat : (l : List A) → length (flat_map f l) ≡ w * length l
  unfolding flat_map
  length_flat [] = sym (mul-zero w)
  length_flat (a ∷ l) = length-append (f a) (flat_map f l) ∙ omega (arith, wide a, length_flat l, mul-suc w (length l))

  -- part q
  pub part_at : (l : List A) (rest : List B) (q : ℕ) (d : A) → q < length l → take w (drop (w * q) (flat_map f l ++ rest)) ≡ f (get_or l q d)
  unfolding flat_map
  part_at [] rest q d h = absurd (not-suc-le-zero h)
  part_at (a ∷ l) rest zero d h =
      ap (λ (n : ℕ). take w (drop n ((f a ++ flat_map f l) ++ rest))) (mul-zero w)
      ∙ ap (take w) (append_assoc (f a) (flat_map f l) rest) ∙ take_at (f a) (flat_map f l ++ rest) w (wide a)
  part_at (a ∷ l) rest (suc q) d h =
      ap (λ (n : ℕ). take w (drop n ((f a ++ flat_map f l) ++ rest))) (mul-suc w q ∙ add_comm (w * q) w ∙ ap (λ (n : ℕ). n + w * q) (sym (wide a)))
      ∙ ap (λ (x : List B). take w (drop (length (f a) + w * q) x)) (append_assoc (f a) (flat_map f l) rest)
      ∙ ap (take w) (drop-append-add (f a) (flat_map f l ++ rest) (w * q))
      ∙ part_at l rest q d (le_of_suc-le-suc h)

  part_anew : (l : List A) (rest : List B) (q : ℕ) (v : A) → q < length l → sets (flat_map f l ++ rest) (w * q) (f v) ≡ flat_map f (set l q v) ++ rest
  unfolding flat_map
  part_anew [] rest q v h = absurd (not-suc-le-zero h)
  part_anew (a ∷ l) rest zero v h =
      ap (λ (n : ℕ). sets ((f a ++ flat_map f l) ++ rest) n (f v)) (mul-zero w)
      ∙ ap (λ (x : List B). sets x 0 (f v)) (append_assoc (f a) (flat_map f l) rest)
      ∙ sets_front (f a) (f v) (flat_map f l ++ rest) (wide v ∙ sym (wide a))
      ∙ sym (append_assoc (f v) (flat_map f l) rest)
  part_anew (a ∷ l) rest (suc q) v h =
      ap (λ (n : ℕ). sets ((f a ++ flat_map f l) ++ rest) n (f v)) (mul-suc w q ∙ add_comm (w * q) w ∙ ap (λ (n : ℕ). n + w * q) (sym (wide a)))
      ∙ ap (λ (x : List B). sets x (length (f a) + w * q) (f v)) (append_assoc (f a) (flat_map f l) rest)
      ∙ sets_behind (f v) (f a) (flat_map f l ++ rest) (w * q)
      ∙ ap (λ (x : List B). f a ++ x) (part_anew l rest q v (le_of_suc-le-suc h))
      ∙ sym (append_assoc (f a) (flat_map f (set l q v)) rest)

  -- behind the last part
  pub behind : (l : List A) (output : List B) (n : ℕ) → length l ≡ n → drop (w * n) (in_front (flat_map f l) output) ≡ drop (w * n) output
  behind l output n e =
      let size : length (flat_map f l) ≡ w * n = length_flat l ∙ ap (λ (k : ℕ). w * k) e in
      drop_at (flat_map f l) (drop (length (flat_map f l)) output) (w * n) size ∙ ap (λ (k : ℕ). drop k output) size

  -- and the parts themselves
  pub front_left : (l : List A) (output : List B) (n : ℕ) → length l ≡ n → take (w * n) (in_front (flat_map f l) output) ≡ flat_map f l
  front_left l output n e = take_at (flat_map f l) (drop (length (flat_map f l)) output) (w * n) (length_flat l ∙ ap (λ (k : ℕ). w * k) e)

  -- part q written anew
  pub part_set : (l : List A) (output : List B) (q : ℕ) (v : A) → q < length l
      → sets (in_front (flat_map f l) output) (w * q) (f v) ≡ in_front (flat_map f (set l q v)) output
  part_set l output q v h =
      let same : length (flat_map f (set l q v)) ≡ length (flat_map f l) = length_flat (set l q v) ∙ ap (λ (n : ℕ). w * n) (length-set l q v) ∙ sym (length_flat l) in
      part_anew l (drop (length (flat_map f l)) output) q v h ∙ ap (λ (n : ℕ). flat_map f (set l q v) ++ drop n output) (sym same)

  -- ---- the loop that writes the parts of g 0, g 1, ..

  pub parts_none : (g : ℕ → A) (output : List B) → output ≡ in_front (flat_map f (tabulate 0 g)) output
  unfolding flat_map tabulate
  parts_none g output = refl

  pub parts_more : (g : ℕ → A) (q : ℕ) (output out : List B) → w * q + w ≤ length output → out ≡ in_front (flat_map f (tabulate q g)) output
      → sets out (w * q) (f (g q)) ≡ in_front (flat_map f (tabulate (q + 1) g)) output
  parts_more g q output out h e =
      let p = flat_map f (tabulate q g) in
      let v = f (g q) in
      let size : length p ≡ w * q = length_flat (tabulate q g) ∙ ap (λ (n : ℕ). w * n) (length-tabulate q g) in
      let room : w * q + length v ≤ length (in_front p output) = omega (arith, wide (g q), length-in_front p output (omega (arith, size))) in
      let rest = drop (length p) output in
      ap (λ (x : List B). sets x (w * q) v) e
      ∙ sets-eq v (p ++ rest) (w * q) room
      ∙ ap (λ (x : List B). x ++ v ++ drop (w * q + length v) (p ++ rest)) (take_at p rest (w * q) size)
      ∙ ap (λ (x : List B). p ++ v ++ x) (ap (λ (n : ℕ). drop (n + length v) (p ++ rest)) (sym size) ∙ drop-append-add p rest (length v) ∙ drop-drop (length v) (length p) output)
      ∙ ap (λ (n : ℕ). p ++ v ++ drop n output) (sym (length-append p v))
      ∙ ap (λ (x : List B). in_front x output) (sym (flat_more f q g) ∙ ap (λ (n : ℕ). flat_map f (tabulate n g)) (sym (add-one q)))

  -- ---- the loop that looks at each part of l again and writes some anew, so that part q becomes that of g q

  pub again_none : (g : ℕ → A) (l : List A) (output out : List B) → out ≡ in_front (flat_map f l) output → out ≡ in_front (flat_map f (tabulate 0 g ++ drop 0 l)) output
  unfolding tabulate
  again_none g l output out e = e

  pub again_more : (g : ℕ → A) (l : List A) (q : ℕ) (v d : A) (anew : Bool) (output out next : List B) → q < length l → g q ≡ cond anew v (get_or l q d)
      → out ≡ in_front (flat_map f (tabulate q g ++ drop q l)) output → next ≡ cond anew (sets out (w * q) (f v)) out
      → next ≡ in_front (flat_map f (tabulate (q + 1) g ++ drop (q + 1) l)) output
  again_more g l q v d true output out next h is e n =
      let kept = tabulate q g ++ drop q l in
      n ∙ ap (λ (x : List B). sets x (w * q) (f v)) e
      ∙ part_set kept output q v (omega (arith, length-append (tabulate q g) (drop q l), length-tabulate q g, length-drop q l))
      ∙ ap (λ (x : List A). in_front (flat_map f x) output) (kept_more g q l kept v d h (sym is) refl)
  again_more g l q v d false output out next h is e n = n ∙ e ∙ ap (λ (x : List A). in_front (flat_map f x) output) (kept_same g q l d h (sym is))

  pub again_all : (g : ℕ → A) (l : List A) (n : ℕ) (output out : List B) → n ≡ length l → out ≡ in_front (flat_map f (tabulate n g ++ drop n l)) output
      → out ≡ in_front (flat_map f (tabulate (length l) g)) output
  again_all g l n output out e h = h ∙ ap (λ (x : List A). in_front (flat_map f x) output) (kept_all g n l (tabulate n g ++ drop n l) e refl)
