-- The blocks and the rest are all samples.
use Rattle.std.proofs.Common.{rules, ◌≡◌, ◌∙◌, sym, ap, ◌*◌, ◌/◌, ◌&&◌, length, drop, [], Bool, true, false}
use Rattle.std.proofs.lemmas.Iterator.{cases_from_all, YieldsList-from_slice}
use Rattle.std.specs.Simd.{first_chunks}
use lib.Ieee.{nan}
use Rattle.lists.specs.Tab.{all}
use Rattle.samples.specs.Samples.{between}
use Rattle.samples.proofs.Laws.{chain, all_blocks}
use Rattle.samples.proofs.bounds.Bounds.hold.Goals as goal
use Rattle.samples.proofs.bounds.Bounds.hold.Goals.{After-all}

blocks : (c : After-all) → c.all.result ≡ all (all (between c.args.self.low c.args.self.high)) (first_chunks 16 (length c.args.samples.now / 16) c.args.samples.now)
blocks c =
    let ok = between c.args.self.low c.args.self.high in
    chain (all ok) [] (first_chunks 16 (length c.args.samples.now / 16) c.args.samples.now) c.all.result (cases_from_all _ _ _ (λ b. all ok b ≡ true) (λ b. all ok b ≡ false) c.all.ensures.ran (YieldsList-from_slice (first_chunks 16 (length c.args.samples.now / 16) c.args.samples.now) cc) (λ x q k. search rules) (λ x q k. search rules))

rest : (c : goal.After-all-then-all) → c.all-then-all.result ≡ all (between c.args.self.low c.args.self.high) (drop (length c.args.samples.now / 16 * 16) c.args.samples.now)
rest c =
    let ok = between c.args.self.low c.args.self.high in
    chain ok nan (drop (length c.args.samples.now / 16 * 16) c.args.samples.now) c.all-then-all.result (cases_from_all _ _ _ (λ v. ok v ≡ true) (λ v. ok v ≡ false) c.all-then-all.ensures.ran (YieldsList-from_slice (drop (length c.args.samples.now / 16 * 16) c.args.samples.now) cc) (λ x q k. search rules) (λ x q k. search rules))

pub returns-then-all : goal.returns-then-all
returns-then-all c =
    let ok = between c.args.self.low c.args.self.high in
    let n = length c.args.samples.now / 16 in
    rest c ∙ sym (all_blocks ok 16 n c.args.samples.now ∙ ap (λ (b : Bool). b && all ok (drop (n * 16) c.args.samples.now)) (sym (blocks (goal.at.returns-then-all c).After-all) ∙ c.if-all.true))

pub returns-else-all : goal.returns-else-all
returns-else-all c =
    let ok = between c.args.self.low c.args.self.high in
    let n = length c.args.samples.now / 16 in
    c.if-all.false ∙ sym (all_blocks ok 16 n c.args.samples.now ∙ ap (λ (b : Bool). b && all ok (drop (n * 16) c.args.samples.now)) (sym (blocks (goal.at.returns-else-all c).After-all) ∙ c.if-all.false))
