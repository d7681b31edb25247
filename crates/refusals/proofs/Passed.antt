-- What a call answers whose `?` hands on a refusal. Assumes nothing.
use mathlib.Core.Path.{◌≡◌, refl, ap}
use Rattle.std.specs.Prelude.{Result, Ok, Err, IsErrAnd}
use Rattle.refusals.specs.Outcome.{Outcome, refused, number}
use Rattle.refusals.specs.Numbers.{number_of, outcome_by, outcome, done}
use Rattle.refusals.specs.declared.refusal.Refusal.{Refusal}

-- a refusal that is handed on is the answer, whatever an accepted answer would say
pub passed_on : {A B : Type 0} (says : A → Outcome B) (r : Result A Refusal) (e : Refusal)
    → IsErrAnd r (λ x. x ≡ e) → outcome_by says r ≡ refused (number_of e)
passed_on says (Err x) e h = ap (λ (y : Refusal). refused (number_of y)) h
passed_on says (Ok a) e h = absurd h

-- a call that says no more than that it is done has the number of one that says its value
pub done_number : {A : Type 0} (r : Result A Refusal) → number (done r) ≡ number (outcome r)
done_number (Ok a) = refl
done_number (Err e) = refl
