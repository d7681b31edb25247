-- The blocks before the one that is found hold no sample below the threshold.
use Rattle.std.proofs.Common.{◌≡◌, sym, subst, ◌+◌, ◌-◌, ◌*◌, ◌/◌, ◌≤◌, ℕ, true, false, rules, tests, arith}
use Rattle.std.proofs.lemmas.Iterator.{first_from_Range}
use Rattle.std.specs.Option.{unwrap_or}
use Rattle.clusters.specs.Walk.{NoneBelow}
use Rattle.clusters.proofs.Search.{block, blocks_passed}
use Rattle.clusters.proofs.skip_blocks.Goals.{After-unwrap_or}
use Rattle.clusters.proofs.skip_blocks.Goals as goal

module _ (c : After-unwrap_or) where
  abbrev blocks : ℕ
  blocks = c.saturating_sub-blocks.result / 32

  abbrev n : ℕ
  n = unwrap_or c.find-passed.result blocks

  passed : (n ≤ blocks) × NoneBelow c.args.threshold c.args.mat.now c.args.from (c.args.from + 32 * n)
  passed =
      let holds = block c.args.threshold c.args.mat.now c.args.from in
      blocks_passed c.args.threshold c.args.mat.now c.args.from blocks c.find-passed.result
      (first_from_Range (record { start = 0; end = blocks }) _ _ c.find-passed.result (λ k. holds k ≡ true) (λ k. holds k ≡ false) c.find-passed.ensures.ran
      (λ x q k. search (rules, tests))
      (λ x q k. search (rules, tests)))

  inside : c.args.from + 32 * c.unwrap_or.result ≤ c.args.from + (c.args.end - c.args.from)
  inside = omega (arith, c.unwrap_or.ensures, c.saturating_sub-blocks.ensures, passed.0)

pub overflow_mul-result : goal.overflow_mul-result
overflow_mul-result c = omega (arith, inside c)

pub overflow_add-result : goal.overflow_add-result
overflow_add-result c = omega (arith, inside c)

pub returns : goal.returns
returns c = (omega arith, subst (λ (m : ℕ). NoneBelow c.args.threshold c.args.mat.now c.args.from (c.args.from + 32 * m)) (sym c.unwrap_or.ensures) (passed c).1)
