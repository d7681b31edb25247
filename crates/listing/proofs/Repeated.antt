-- What it means that another quad of a list gives an id, and that it can be told by counting. Assumes nothing.
use mathlib.Core.Path.{◌≡◌, refl, sym, ap, ◌∙◌}
use mathlib.Core.Bool.{Bool, true, false, not, ◌&&◌, cond}
use mathlib.Core.List.{List}
use Prim.Native.Nat.{ℕ, ◌<◌}
use native.Mathlib.Omega.{arith}
use borrow.Author.Tests.{lt-ltb, le-ltb, eqb-false, ne_eqb, not-true}
use lib.Dec.{eqb, ltb}
use lib.ListN.{length, get_or}
use Rattle.lists.specs.Each.{any}
use Rattle.lists.specs.Sum.{one_if}
use Rattle.std.proofs.lemmas.Bool.{and_parts}
use Rattle.lists.proofs.Each.{any_found, any_from, any_ext}
use Rattle.lists.proofs.Sum.{sum_two, sum_alone}
use Rattle.lists.proofs.Tab.{length-tabulate, get_or-tabulate}
use Rattle.refusals.specs.Outcome.{Outcome, accepted, refused}
use Rattle.reader.specs.Reading.{Tag}
use Rattle.listing.specs.Repeated.{gives_id, gives_too, given_elsewhere, in_list, listed}
use Rattle.listing.specs.Steps.{times_given}

module _ (read : List (Outcome Tag)) where
  -- what quad p reads as by itself
  abbrev pub read_at : ℕ → Outcome Tag
  read_at p = get_or read p (refused 0)

  pub length-listed : length (listed read) ≡ length read
  unfolding listed
  length-listed = length-tabulate (length read) (λ q. in_list read q (read_at q))

  pub listed_at : (q : ℕ) → q < length read → get_or (listed read) q (refused 0) ≡ in_list read q (read_at q)
  unfolding listed
  listed_at q h = get_or-tabulate (length read) (λ q. in_list read q (read_at q)) q (refused 0) h

  module _ (q id : ℕ) where
    -- the other quad
    pub record Other : Type 0 where
      pub place : ℕ
      pub below : place < length read
      pub apart : place ≡ q → ⊥
      pub gives : gives_id id (read_at place) ≡ true

    pub elsewhere_of : Other → given_elsewhere read q id ≡ true
    unfolding given_elsewhere
    elsewhere_of o = any_found (length read) o.place (gives_too read q id) o.below (simp (ne_eqb o.place q o.apart, o.gives))

    pub elsewhere_at : given_elsewhere read q id ≡ true → Other
    unfolding given_elsewhere
    elsewhere_at e =
        let p = any_from (length read) (gives_too read q id) e in
        let both = and_parts (not (eqb p.0 q)) (gives_id id (read_at p.0)) p.2 in
        record { place = p.0; below = p.1; apart = eqb-false p.0 q (not-true (eqb p.0 q) both.0); gives = both.1 }

    pub elsewhere_not : ((p : ℕ) → p < length read → (p ≡ q → ⊥) → gives_id id (read_at p) ≡ false) → given_elsewhere read q id ≡ false
    elsewhere_not h = go (given_elsewhere read q id) refl
      where
        go : (b : Bool) → given_elsewhere read q id ≡ b → b ≡ false
        go true e = let o = elsewhere_at e in sym o.gives ∙ h o.place o.below o.apart
        go false e = refl

    -- ---- what the quad is in the list then

    pub shared_18 : (tag : Tag) → tag.id ≡ id → Other → in_list read q (accepted tag) ≡ refused 18
    shared_18 tag e o = ap (λ (b : Bool). cond b (refused 18) (accepted tag)) (ap (given_elsewhere read q) e ∙ elsewhere_of o)

    pub alone_kept : (tag : Tag) → tag.id ≡ id → ((p : ℕ) → p < length read → (p ≡ q → ⊥) → gives_id id (read_at p) ≡ false) → in_list read q (accepted tag) ≡ accepted tag
    alone_kept tag e h = ap (λ (b : Bool). cond b (refused 18) (accepted tag)) (ap (given_elsewhere read q) e ∙ elsewhere_not h)

    -- ---- by counting

    abbrev given : ℕ → ℕ
    given p = one_if (gives_id id (read_at p))

    given_one : (p : ℕ) → gives_id id (read_at p) ≡ true → given p ≡ 1
    given_one p e = simp e

    given_none : given_elsewhere read q id ≡ false → (p : ℕ) → p < length read → (p ≡ q → ⊥) → given p ≡ 0
    given_none e p l d = go (gives_id id (read_at p)) refl
      where
        go : (b : Bool) → gives_id id (read_at p) ≡ b → one_if b ≡ 0
        go true g =
            let z : true ≡ false = sym (elsewhere_of (record { place = p; below = l; apart = d; gives = g })) ∙ e in
            let y : ◌≡◌ {A = ℕ} 0 1 = cc in
            absurd (omega arith)
        go false g = refl

    -- a quad that gives an id shares it where the id is given more than once
    pub elsewhere_counted : q < length read → gives_id id (read_at q) ≡ true → given_elsewhere read q id ≡ ltb 1 (times_given read_at (length read) id)
    elsewhere_counted l own = go (given_elsewhere read q id) refl
      where
        two : Other → 1 < times_given read_at (length read) id
        two o = omega (arith, given_one o.place o.gives, given_one q own, sum_two (length read) given o.place q o.below l o.apart)

        go : (b : Bool) → given_elsewhere read q id ≡ b → b ≡ ltb 1 (times_given read_at (length read) id)
        go true e = sym (lt-ltb 1 (times_given read_at (length read) id) (two (elsewhere_at e)))
        go false e = sym (le-ltb 1 (times_given read_at (length read) id) (omega (arith, sum_alone (length read) given q l (given_none e), given_one q own)))

-- two lists in which each quad gives the same id, or none
pub elsewhere_ext : (read other : List (Outcome Tag)) (q id : ℕ) → length read ≡ length other
    → ((p : ℕ) → p < length read → gives_id id (read_at read p) ≡ gives_id id (read_at other p)) → given_elsewhere read q id ≡ given_elsewhere other q id
unfolding given_elsewhere
elsewhere_ext read other q id e h =
    any_ext (length read) (gives_too read q id) (gives_too other q id) (λ p l. ap (λ (b : Bool). not (eqb p q) && b) (h p l))
    ∙ ap (λ (n : ℕ). any n (gives_too other q id)) e
