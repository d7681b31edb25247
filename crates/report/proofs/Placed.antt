-- The rows of a reading, looked at one after the other: each stands and has an id that was not met before, if and only if all stand and no id is there
-- twice. Assumes nothing.
use mathlib.Core.Path.{◌≡◌, refl, sym, ap, ap₂, ◌∙◌}
use mathlib.Core.Logic.{◌⊎◌, inl, inr}
use mathlib.Core.Bool.{Bool, true, false, not, ◌&&◌, ◌||◌, cond, and-true, and-false}
use mathlib.Core.List.{List, [], ◌∷◌, ◌++◌, map, flat_map}
use Prim.Native.Nat.{ℕ, zero, suc, ◌+◌, ◌<◌}
use native.Mathlib.Nat.{add-zero, add_assoc}
use native.Mathlib.Omega.{arith}
use borrow.Author.Tests.{eq-eqb, ne_eqb}
use lib.Dec.{eqb}
use lib.ListN.{length, get_or, set, replicate, length-append, length-set, length-replicate}
use lib.Seq.{get_or-set_same, get_or-set_other}
use Rattle.lists.specs.Tab.{all}
use Rattle.std.proofs.lemmas.Bool.{cases_eq, and_right}
use Rattle.refusals.specs.Outcome.{Outcome, accepted, refused}
use Rattle.reader.specs.Reading.{Tag}
use Rattle.report.specs.Reading.{good_row, id_of, holds, distinct}
use Rattle.report.specs.Bytes.{row_bytes}
use Rattle.report.specs.Steps.{Candidate, is_met, meet, placed}
use Rattle.report.proofs.Good.{good_tag}

abbrev pub row_of_candidate : Candidate → Outcome Tag
row_of_candidate c = c.row

abbrev pub stands_of : Candidate → Bool
stands_of c = c.stands

-- what the candidates say
abbrev pub said : List Candidate → List (Outcome Tag)
said l = map row_of_candidate l

-- a candidate that stands is a good row
unfoldable pub Sound : List Candidate → Type 0
Sound [] = 0 < 1
Sound (c ∷ l) = (c.stands ≡ true → good_row c.row ≡ true) × Sound l

-- no id of a list was met
abbrev not_met : List Bool → ℕ → Bool
not_met met id = not (get_or met id false)

abbrev none_met : List Bool → List ℕ → Bool
none_met met ids = all (not_met met) ids

-- nothing was met at first
none_at_first : (n : ℕ) (ids : List ℕ) → none_met (replicate n false) ids ≡ true
unfolding all
none_at_first n [] = refl
none_at_first n (id ∷ ids) = ap₂ (λ (a : Bool) (b : Bool). not a && b) (falses n id) (none_at_first n ids)
  where
    falses : (n id : ℕ) → get_or (replicate n false) id false ≡ false
    falses zero id = refl
    falses (suc n) zero = refl
    falses (suc n) (suc id) = falses n id

regroup : (x n h : Bool) → not x && (n && not h) ≡ (not x && n) && not h
regroup true n h = refl
regroup false n h = refl

-- with one id more
met_more : (met : List Bool) (ids : List ℕ) (id : ℕ) → id < length met → none_met (set met id true) ids ≡ none_met met ids && not (holds id ids)
unfolding all holds
met_more met [] id h = refl
met_more met (k ∷ ids) id h = go (met_more met ids id h) (cases_eq k id)
  where
    go : none_met (set met id true) ids ≡ none_met met ids && not (holds id ids) → (k ≡ id) ⊎ (k ≡ id → ⊥)
        → not_met (set met id true) k && none_met (set met id true) ids ≡ (not_met met k && none_met met ids) && not (eqb k id || holds id ids)
    go ih (inl e) =
        ap (λ (b : Bool). not b && none_met (set met id true) ids) (ap (λ (x : ℕ). get_or (set met id true) x false) e ∙ get_or-set_same met id true false h)
        ∙ sym (and-false (not_met met k && none_met met ids))
        ∙ ap (λ (b : Bool). (not_met met k && none_met met ids) && not (b || holds id ids)) (sym (eq-eqb k id e))
    go ih (inr d) =
        ap₂ (λ (x : Bool) (n : Bool). not x && n) (get_or-set_other met id k true false d) ih
        ∙ regroup (get_or met k false) (none_met met ids) (holds id ids)
        ∙ ap (λ (b : Bool). (not_met met k && none_met met ids) && not (b || holds id ids)) (sym (ne_eqb k id d))

-- in another order
order : (a d n h : Bool) → a && (d && (n && not h)) ≡ a && ((not h && d) && (true && n))
order false d n h = refl
order true false n true = refl
order true false n false = refl
order true true false h = go h
  where
    go : (h : Bool) → false ≡ (not h && true) && false
    go true = refl
    go false = refl
order true true true true = refl
order true true true false = refl

met_fails : (a b n : Bool) → false ≡ a && (b && (false && n))
met_fails true true n = refl
met_fails true false n = refl
met_fails false b n = refl

abbrev size_of : List Candidate → ℕ
size_of l = length (flat_map row_bytes (said l))

abbrev ids_of : List Candidate → List ℕ
ids_of l = flat_map id_of (said l)

-- the rest of the rows, from ids that were met and a place
abbrev rest_placed : List Bool → List Candidate → ℕ → Outcome ℕ
rest_placed met l at = cond (all stands_of l && (distinct (ids_of l) && none_met met (ids_of l))) (accepted (at + size_of l)) (refused 20)

placed_from : (met : List Bool) (l : List Candidate) (at : ℕ) → length met ≡ 1024 → Sound l → placed met l at ≡ rest_placed met l at
unfolding placed Sound all flat_map distinct
placed_from met [] at h s = ap accepted (sym (add-zero at))
placed_from met (c ∷ l) at h s = go (λ m k e. placed_from m l k e s.1) c.row c.stands s.0
  where
    moved : (row : Outcome Tag) → at + length (row_bytes row) + size_of l ≡ at + length (row_bytes row ++ flat_map row_bytes (said l))
    moved row = add_assoc at (length (row_bytes row)) (size_of l) ∙ ap (λ (n : ℕ). at + n) (sym (length-append (row_bytes row) (flat_map row_bytes (said l))))

    go : ((m : List Bool) (k : ℕ) → length m ≡ 1024 → placed m l k ≡ rest_placed m l k) → (row : Outcome Tag) (stands : Bool) → (stands ≡ true → good_row row ≡ true)
        → cond (stands && not (is_met met row)) (placed (meet met row) l (at + length (row_bytes row))) (refused 20)
        ≡ cond ((stands && all stands_of l) && (distinct (id_of row ++ ids_of l) && none_met met (id_of row ++ ids_of l))) (accepted (at + length (row_bytes row ++ flat_map row_bytes (said l)))) (refused 20)
    go ih row false good = refl
    go ih (refused n) true good =
        ih met (at + 2) h
        ∙ ap (λ (k : ℕ). cond (all stands_of l && (distinct (ids_of l) && none_met met (ids_of l))) (accepted k) (refused 20)) (moved (refused n))
    go ih (accepted tag) true good = by (get_or met tag.id false) refl
      where
        id_lt : tag.id < length met
        id_lt = omega (arith, (good_tag tag (good refl)).id_lt, h)

        by : (m : Bool) → get_or met tag.id false ≡ m
            → cond (not m) (placed (set met tag.id true) l (at + length (row_bytes (accepted tag)))) (refused 20)
            ≡ cond (all stands_of l && ((not (holds tag.id (ids_of l)) && distinct (ids_of l)) && (not m && none_met met (ids_of l))))
            (accepted (at + length (row_bytes (accepted tag) ++ flat_map row_bytes (said l)))) (refused 20)
        by true e =
            ap (λ (b : Bool). cond b (accepted (at + length (row_bytes (accepted tag) ++ flat_map row_bytes (said l)))) (refused 20))
            (met_fails (all stands_of l) (not (holds tag.id (ids_of l)) && distinct (ids_of l)) (none_met met (ids_of l)))
        by false e =
            ih (set met tag.id true) (at + length (row_bytes (accepted tag))) (length-set met tag.id true ∙ h)
            ∙ ap₂ (λ (b : Bool) (k : ℕ). cond b (accepted k) (refused 20))
            (ap (λ (n : Bool). all stands_of l && (distinct (ids_of l) && n)) (met_more met (ids_of l) tag.id id_lt)
            ∙ order (all stands_of l) (distinct (ids_of l)) (none_met met (ids_of l)) (holds tag.id (ids_of l)))
            (moved (accepted tag))

-- from the first row on
pub placed_is : (l : List Candidate) (at : ℕ) → Sound l
    → placed (replicate 1024 false) l at ≡ cond (all stands_of l && distinct (ids_of l)) (accepted (at + size_of l)) (refused 20)
placed_is l at s =
    placed_from (replicate 1024 false) l at (length-replicate {A = Bool} 1024 false) s
    ∙ ap (λ (n : Bool). cond (all stands_of l && n) (accepted (at + size_of l)) (refused 20)) (ap (λ (n : Bool). distinct (ids_of l) && n) (none_at_first 1024 (ids_of l)) ∙ and-true (distinct (ids_of l)))

-- ---- one row more

module _ (met : List Bool) (c : Candidate) (l : List Candidate) (at : ℕ) where
  abbrev placed_on : Outcome ℕ
  placed_on = placed (meet met c.row) l (at + length (row_bytes c.row))

  step : placed met (c ∷ l) at ≡ cond (c.stands && not (is_met met c.row)) placed_on (refused 20)
  unfolding placed
  step = refl

  pub placed_more : c.stands ≡ true → is_met met c.row ≡ false → placed met (c ∷ l) at ≡ placed_on
  placed_more s m = step ∙ simp (s, m)

  -- a row that does not stand, or whose id was met before
  pub placed-not : c.stands ≡ false → placed met (c ∷ l) at ≡ refused 20
  placed-not s = step ∙ simp s

  pub placed_met : is_met met c.row ≡ true → placed met (c ∷ l) at ≡ refused 20
  placed_met m = step ∙ ap (λ (b : Bool). cond b placed_on (refused 20)) (and_right c.stands (not (is_met met c.row)) (ap not m))
