-- The rows, one after the other, come to `written`. Assumes nothing.
use mathlib.Core.Path.{◌≡◌, sym, ap, ◌∙◌}
use mathlib.Core.Bool.{Bool, cond}
use mathlib.Core.List.{List, [], ◌∷◌, ◌++◌}
use Prim.Native.Nat.{ℕ, suc, ◌+◌, ◌*◌, ◌<◌, ◌≤◌}
use native.Mathlib.Decide.{dec_le}
use native.Mathlib.Omega.{arith}
use lib.ListN.{length, set}
use borrow.Author.Tests.{le-leb, lt-leb}
use Rattle.clusters.specs.declared.Row.{Row}
use Rattle.clusters.specs.Clusters.{written}
use Rattle.clusters.specs.Walk.{put}

module _ (rows : List ℕ) (k : ℕ) (row : Row) where
  abbrev there : List ℕ
  there = set (set (set rows (3 * k) row.x) (3 * k + 1) row.y) (3 * k + 2) row.count

  pub put-there : 3 * k + 3 ≤ length rows → there ≡ put rows k row
  unfolding put
  put-there h = sym (ap (λ (b : Bool). cond b there rows) (le-leb (3 * k + 3) (length rows) h))

  pub put_nowhere : length rows < 3 * k + 3 → rows ≡ put rows k row
  unfolding put
  put_nowhere h = sym (ap (λ (b : Bool). cond b there rows) (lt-leb (3 * k + 3) (length rows) h))

-- behind a row, row k + 1 is row k of the rest
put_behind : (a b c : ℕ) (rest : List ℕ) (k : ℕ) (row : Row) → a ∷ b ∷ c ∷ put rest k row ≡ put (a ∷ b ∷ c ∷ rest) (suc k) row
put_behind a b c rest k row =
    elim (dec_le (3 * k + 3) (length rest)) [
      | yes h ↦ ap behind (sym (put-there rest k row h)) ∙ sym indices ∙ put-there (behind rest) (suc k) row (omega arith)
      | no h ↦ ap behind (sym (put_nowhere rest k row (omega arith))) ∙ put_nowhere (behind rest) (suc k) row (omega arith)
    ]
  where
    behind : List ℕ → List ℕ
    behind l = a ∷ b ∷ c ∷ l

    indices : there (behind rest) (suc k) row ≡ behind (there rest k row)
    indices =
        let e : 3 * suc k ≡ suc (suc (suc (3 * k))) = omega arith in
        let f : 3 * suc k + 1 ≡ suc (suc (suc (3 * k + 1))) = omega arith in
        let g : 3 * suc k + 2 ≡ suc (suc (suc (3 * k + 2))) = omega arith in
        λ j. set (set (set (behind rest) (e j) row.x) (f j) row.y) (g j) row.count

-- one row more
pub written_more : (l : List Row) (row : Row) (rows : List ℕ) → written (l ++ (row ∷ [])) rows ≡ put (written l rows) (length l) row
unfolding written
written_more [] row [] = put_nowhere [] 0 row (omega arith)
written_more [] row (a ∷ []) = put_nowhere (a ∷ []) 0 row (omega arith)
written_more [] row (a ∷ b ∷ []) = put_nowhere (a ∷ b ∷ []) 0 row (omega arith)
written_more [] row (a ∷ b ∷ c ∷ rows) = put-there (a ∷ b ∷ c ∷ rows) 0 row (omega arith)
written_more (q ∷ l) row [] = put_nowhere [] (suc (length l)) row (omega arith)
written_more (q ∷ l) row (a ∷ []) = put_nowhere (a ∷ []) (suc (length l)) row (omega arith)
written_more (q ∷ l) row (a ∷ b ∷ []) = put_nowhere (a ∷ b ∷ []) (suc (length l)) row (omega arith)
written_more (q ∷ l) row (a ∷ b ∷ c ∷ rows) =
    ap (λ (m : List ℕ). q.x ∷ q.y ∷ q.count ∷ m) (written_more l row rows) ∙ put_behind q.x q.y q.count (written l rows) (length l) row
