-- The first pass of the list reader counts how often each id is given. Assumes nothing.
use mathlib.Core.Path.{◌≡◌, refl, sym, ap, ◌∙◌}
use mathlib.Core.Logic.{◌⊎◌, inl, inr}
use mathlib.Core.List.{List}
use Prim.Native.Nat.{ℕ, ◌+◌, ◌≤◌, ◌<◌}
use native.Mathlib.Numerals.{add-one}
use native.Mathlib.Omega.{arith}
use borrow.Author.Tests.{eq-eqb, ne_eqb}
use lib.ListN.{length, get_or, replicate, length-set, length-replicate, get_or-replicate}
use lib.Seq.{get_or-set_same, get_or-set_other}
use Rattle.lists.specs.Sum.{sum, one_if}
use Rattle.std.proofs.lemmas.Bool.{cases_eq}
use Rattle.lists.proofs.Sum.{sum_most, one_if-lt}
use Rattle.refusals.specs.Outcome.{Outcome, accepted, refused}
use Rattle.reader.specs.Reading.{Tag}
use Rattle.reader.proofs.Answers.{Answers}
use Rattle.listing.specs.Repeated.{gives_id}
use Rattle.listing.specs.Steps.{most_ids, times_given, Countable, counted}

-- a reading whose id can be counted, or whose row says a refusal
abbrev pub Known : Outcome Tag → Type 0
Known (accepted tag) = tag.id < most_ids
Known (refused n) = 0 < n

pub known : (codes : List ℕ) → length codes ≤ most_ids → (o : Outcome Tag) → Answers codes o → Known o
known codes few (accepted tag) a = omega arith
known codes few (refused n) a = omega arith

-- the counts after the first n quads
pub record Counts (read : ℕ → Outcome Tag) (n : ℕ) (times : List ℕ) : Type 0 where
  pub size : length times ≡ most_ids
  pub each : (id : ℕ) → id < most_ids → get_or times id 0 ≡ times_given read n id

module _ (read : ℕ → Outcome Tag) where
  pub Counts-none : Counts read 0 (replicate most_ids 0)
  unfolding sum
  Counts-none = record { size = length-replicate {A = ℕ} most_ids 0; each = λ id h. get_or-replicate most_ids id 0 0 h }

  given_more : (n id : ℕ) → times_given read (n + 1) id ≡ one_if (gives_id id (read n)) + times_given read n id
  unfolding sum
  given_more n id = ap (λ (k : ℕ). times_given read k id) (add-one n)

  -- no id is given more often than there are quads
  given_most : (n id : ℕ) → times_given read n id ≤ n
  given_most n id = omega (arith, sum_most n 1 (λ p. one_if (gives_id id (read p))) (λ p l. omega (arith, one_if-lt (gives_id id (read p)))))

  module _ (n : ℕ) (times : List ℕ) (c : Counts read n times) where
    pub countable : n < 65535 → (o : Outcome Tag) → Known o → Countable times o
    countable few (accepted tag) k = (k, omega (arith, c.each tag.id k, given_most n tag.id))
    countable few (refused m) k = omega arith

    pub Counts-more : (o : Outcome Tag) → o ≡ read n → Known o → Counts read (n + 1) (counted times o)
    Counts-more (refused m) e k = record {
      size = c.size;
      each = λ id h. c.each id h ∙ sym (given_more n id ∙ ap (λ (o : Outcome Tag). one_if (gives_id id o) + times_given read n id) (sym e) ∙ omega arith);
    }
    Counts-more (accepted tag) e k = record { size = length-set times tag.id (get_or times tag.id 0 + 1) ∙ c.size; each = λ id h. at id h (cases_eq id tag.id) }
      where
        more : (id : ℕ) → times_given read (n + 1) id ≡ one_if (gives_id id (accepted tag)) + times_given read n id
        more id = given_more n id ∙ ap (λ (o : Outcome Tag). one_if (gives_id id o) + times_given read n id) (sym e)

        at : (id : ℕ) → id < most_ids → (id ≡ tag.id) ⊎ (id ≡ tag.id → ⊥) → get_or (counted times (accepted tag)) id 0 ≡ times_given read (n + 1) id
        at id h (inl q) =
            ap (λ (x : ℕ). get_or (counted times (accepted tag)) x 0) q
            ∙ get_or-set_same times tag.id (get_or times tag.id 0 + 1) 0 (omega (arith, c.size))
            ∙ omega (arith, c.each tag.id k, more tag.id, ap one_if (eq-eqb tag.id tag.id refl))
            ∙ ap (times_given read (n + 1)) (sym q)
        at id h (inr d) =
            get_or-set_other times tag.id id (get_or times tag.id 0 + 1) 0 d
            ∙ omega (arith, c.each id h, more id, ap one_if (ne_eqb tag.id id (λ q. d (sym q))))
