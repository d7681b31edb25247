-- Ticket 6 of document 02: the count of codes compared, told by the answer. Assumes nothing.
use mathlib.Core.Path.{◌≡◌, refl, sym, ap, ◌∙◌, subst}
use mathlib.Core.Bool.{Bool, true, false, cond}
use mathlib.Core.List.{List}
use Prim.Native.Nat.{ℕ, ◌+◌, ◌*◌, ◌≤◌}
use native.Mathlib.Omega.{arith}
use borrow.Author.Tests.{eq-eqb, ne_eqb}
use lib.ListN.{length}
use Rattle.refusals.specs.Outcome.{Outcome, accepted, refused, number}
use Rattle.word.specs.Word.{turn}
use Rattle.tables.specs.Table.{bad_codes}
use Rattle.tables.proofs.Table.{good_codes}
use Rattle.search.specs.Search.{Seen, search}
use Rattle.search.specs.Compared.{compared}
use Rattle.search.proofs.Search.{Means, search_means}
use Rattle.search.proofs.Compared.{by_answer, compared_most, compared_answer}
use Rattle.muosleap.specs.Codes.{best_tag, codes_compared}
use Rattle.paper.proofs.Repeated.{refused_not}
use Rattle.paper.specs.PerfectMatch.{Counted, PerfectMatch}

-- a refused table
refused_6 : (n : ℕ) → Counted n (refused 6) (refused 6)
refused_6 n = record {
  most = λ c e. refused_not 6 c _ e;
  clean = λ seen e d. refused_not 6 seen _ e;
  misread = λ seen e d. refused_not 6 seen _ e;
  unread = λ e. absurd (let z = ap number e in omega arith);
  none = λ e. refl;
  given = λ m e. (sym (ap number e), refl);
}

-- a search, which is refused by 13 alone
searched : (n : ℕ) (answer : Outcome Seen) (c : ℕ) → c ≤ 4 * n → c ≡ by_answer n 4 answer → ((m : ℕ) → answer ≡ refused m → m ≡ 13) → Counted n answer (accepted c)
searched n answer c h e thirteen = record {
  most = λ d q. subst (λ (k : ℕ). k ≤ 4 * n) (let z : c ≡ d = cc in z) h;
  clean = λ seen q d. ap accepted (e ∙ ap (by_answer n 4) q ∙ ap (λ (t : Bool). cond t (seen.turn * n + seen.id + 1) ((seen.turn + 1) * n)) (eq-eqb seen.differing 0 d));
  misread = λ seen q d. ap accepted (e ∙ ap (by_answer n 4) q ∙ ap (λ (t : Bool). cond t (seen.turn * n + seen.id + 1) ((seen.turn + 1) * n)) (ne_eqb seen.differing 0 (λ z. omega arith)));
  unread = λ q. ap accepted (e ∙ ap (by_answer n 4) q);
  none = λ q. absurd (let z = thirteen 6 q in omega arith);
  given = λ m q. refused_not m c ((m ≡ 6) × (answer ≡ refused 6)) (sym q);
}

entry : (word threshold : ℕ) (codes : List ℕ) (edge : ℕ) → Counted (length codes) (best_tag word threshold codes edge) (codes_compared word threshold codes edge)
unfolding best_tag codes_compared
entry word threshold codes edge = go (bad_codes edge threshold codes) refl
  where
    found : Outcome Seen
    found = search word threshold codes edge

    thirteen : (o : Outcome Seen) → Means threshold codes edge 4 0 word o → (m : ℕ) → o ≡ refused m → m ≡ 13
    thirteen (accepted seen) means m e = refused_not m seen (m ≡ 13) (sym e)
    thirteen (refused k) means m e = sym (ap number e) ∙ means.thirteen

    go : (b : Bool) → bad_codes edge threshold codes ≡ b → Counted (length codes) (cond b (refused 6) found) (cond b (refused 6) (accepted (compared word threshold codes edge)))
    go true b = refused_6 (length codes)
    go false b =
        let near = (good_codes edge threshold codes b).near in
        searched (length codes) found (compared word threshold codes edge) (compared_most threshold codes edge 4 word)
        (compared_answer threshold codes edge near.least (omega (arith, near.most)) word)
        (thirteen found (search_means threshold codes edge (omega (arith, near.most)) word))

pub perfect_match : PerfectMatch
unfolding codes_compared turn
perfect_match = record { counted = entry; first_start = refl; next_start = refl }
