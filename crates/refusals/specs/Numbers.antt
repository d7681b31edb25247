-- The numbers of the refusals, and the answer of a call in the papers' words. Assumes nothing.
use Rattle.std.specs.Prelude.{ℕ, Result, Ok, Err}
use Rattle.refusals.specs.declared.refusal.Refusal.{Refusal}
use Rattle.refusals.specs.declared.refusal.Refusal.TheVariants.{Plane, Weights, Sample, Threshold, Worklist, Table, Alike, Corner, CornerOutside, SampleOutside, Flat, Unsure, Unread, Print, Count, Room, Grid, Repeated, Long, NoReading}
use Rattle.refusals.specs.Outcome.{Outcome, accepted, refused, Done}

abbrev pub number_of : Refusal → ℕ
number_of Plane = 1
number_of Weights = 2
number_of Sample = 3
number_of Threshold = 4
number_of Worklist = 5
number_of Table = 6
number_of Alike = 7
number_of Corner = 8
number_of CornerOutside = 9
number_of SampleOutside = 10
number_of Flat = 11
number_of Unsure = 12
number_of Unread = 13
number_of Print = 14
number_of Count = 15
number_of Room = 16
number_of Grid = 17
number_of Repeated = 18
number_of Long = 19
number_of NoReading = 20

-- "a result or a refusal": what an accepted answer says, or the number of its refusal
abbrev pub outcome_by : {A B : Type 0} → (A → Outcome B) → Result A Refusal → Outcome B
outcome_by says (Ok value) = says value
outcome_by says (Err refusal) = refused (number_of refusal)

-- where it says its value
abbrev pub outcome : {A : Type 0} → Result A Refusal → Outcome A
outcome answer = outcome_by accepted answer

-- where it says no more than that the call is done
abbrev pub done : {A : Type 0} → Result A Refusal → Outcome Done
done answer = outcome_by (λ value. accepted (record {})) answer
