-- What is known of an option: a value is there where a fact rules out that none is, and what a clause says of it. Assumes nothing.
use Rattle.std.proofs.Common.{◌≡◌, refl, sym, subst, ◌∙◌, Bool, true, false}
use Rattle.std.specs.Prelude.{Option, Some, None, IfSome, IfNone, IsSome}
use mathlib.Core.Bool.{true≢false}

module _ {X : Type 0} where
  pub is_some : (o : Option X) {b : Bool} → IfNone o (b ≡ false) → b ≡ true → IsSome o
  is_some None none stands = absurd (true≢false (sym stands ∙ none))
  is_some (Some x) none stands = refl

  pub some_has : (P : X → Type 0) (o : Option X) {x : X} → o ≡ Some x → IfSome o P → P x
  some_has P o is h = subst (λ (p : Option X). IfSome p P) is h
