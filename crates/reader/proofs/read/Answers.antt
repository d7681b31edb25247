-- The refusals in their order, then what the word shows.
use Rattle.std.proofs.Common.{◌≡◌, ℕ, ◌<◌, ◌≤◌, List, take, length, refl, sym, ap, Bool, ◌∙◌, subst, Option, Some, None, Result}
use Rattle.std.specs.Prelude.{IsErrAnd}
use Rattle.std.specs.Option.{ok_or}
use Rattle.refusals.specs.Outcome.{accepted, refused}
use Rattle.refusals.specs.Numbers.{number_of}
use Rattle.refusals.proofs.Passed.{passed_on}
use Rattle.refusals.specs.declared.refusal.Refusal.{Refusal}
use Rattle.refusals.specs.declared.refusal.Refusal.TheVariants.{Unread}
use Rattle.refusals.specs.declared.Frame.{Frame}
use Rattle.points.specs.declared.Quad.{Quad}
use Rattle.tables.proofs.Table.{Table, good_table}
use Rattle.places.specs.Place.{axes_of}
use Rattle.places.specs.Corners.{corners_outside}
use Rattle.places.specs.Checked.{quad_of}
use Rattle.places.specs.declared.corners.Corners.{Corners}
use Rattle.levels.specs.Levels.{code_of}
use Rattle.search.specs.Answer.{paper_match}
use Rattle.search.specs.declared.Match.{Match}
use Rattle.reader.specs.Reading.{samples, samples_inside, with_corners}
use Rattle.reader.specs.Answer.{paper_read}
use Rattle.reader.proofs.Samples.{small_axes, part_size, levels_are}
use Rattle.reader.proofs.Order.{reading_8, reading_9, reading_10, reading_levels, reading_word}
use borrow.Author.Rules.{rules}
use Rattle.reader.proofs.read.Goals.{Start}
use Rattle.reader.proofs.read.Goals as goal

-- what `?` passes on, before its corners
passed : (r : Result Match Refusal) (e : Refusal) → IsErrAnd r (λ x. x ≡ e) → paper_read r ≡ refused (number_of e)
passed r e h = passed_on (λ (m : Match). accepted (record { id = m.id; turn = m.turn; differing = m.differing })) r e h

known : (s : Start) → Table s.args.table.now.family s.args.table.now.codes.now
known s = let t = s.args.table.now in good_table t.family t.codes.now t.sound

pub returns-in_err-corners : goal.returns-in_err-corners
returns-in_err-corners c =
    let p = c.args.picture.now in
    let t = c.args.table.now in
    let r = c.in_err-corners.ensures.refused in
    ap (with_corners c.args.quad) (passed c.from_residual.result c.in_err-corners.field-0.0 c.from_residual.ensures.1 ∙ ap (λ (e : Refusal). refused (number_of e)) r.0)
    ∙ sym (reading_8 p.bytes.now p.frame t.family t.codes.now c.args.quad r.1)

-- the corners that are checked are the quad's
outside_is : (frame : Frame) (corners : Corners) (quad : Quad) (r : Bool) → quad_of corners ≡ quad → r ≡ corners_outside frame.width frame.height (quad_of corners) → r ≡ corners_outside frame.width frame.height quad
outside_is frame corners quad r e o = o ∙ ap (corners_outside frame.width frame.height) e

pub returns-then-is_outside : goal.returns-then-is_outside
returns-then-is_outside c =
    let p = c.args.picture.now in
    let t = c.args.table.now in
    let o = c.in_ok-corners.ensures.ok in
    sym (reading_9 p.bytes.now p.frame t.family t.codes.now c.args.quad o.1 (sym (outside_is p.frame c.in_ok-corners.corners c.args.quad _ o.0 c.is_outside.ensures) ∙ c.if-is_outside.true))

pub sample_levels-requires-clause-edge : goal.sample_levels-requires-clause-edge
sample_levels-requires-clause-edge c = let e = (known (goal.at.sample_levels-requires-clause-edge c).Start).coded.edges in (e.least, e.most)

pub sample_levels-requires-clause-border : goal.sample_levels-requires-clause-border
sample_levels-requires-clause-border c = (known (goal.at.sample_levels-requires-clause-border c).Start).borders.most

pub sample_levels-requires-clause-small : goal.sample_levels-requires-clause-small
sample_levels-requires-clause-small c = small_axes c.args.quad c.axes.result c.in_ok-corners.ensures.ok.1 (c.axes.ensures ∙ ap axes_of c.in_ok-corners.ensures.ok.0)

pub returns-in_err-levels : goal.returns-in_err-levels
returns-in_err-levels c =
    let a = c.args in
    let p = a.picture.now in
    let t = a.table.now in
    let o = c.in_ok-corners.ensures.ok in
    let s = c.in_err-levels.ensures in
    ap (with_corners a.quad) (passed c.from_residual-in_err-levels.result c.in_err-levels.field-0.0 c.from_residual-in_err-levels.ensures.1 ∙ ap (λ (e : Refusal). refused (number_of e)) s.refused)
    ∙ sym (reading_10 p.bytes.now p.frame t.family t.codes.now a.quad o.1 (sym (outside_is p.frame c.in_ok-corners.corners a.quad _ o.0 c.is_outside.ensures) ∙ c.if-is_outside.false)
    (ap (samples_inside p.frame t.family) (sym (c.axes.ensures ∙ ap axes_of o.0)) ∙ sym s.inside))

module _ (s : Start) (levels : List ℕ) (z : length levels ≡ 64) where
  size : let n = samples s.args.table.now.family in (n ≤ length levels) × (n ≡ length (take n levels)) × (0 < n) × (n ≤ 64)
  size = let e = (known s).coded.edges in part_size s.args.table.now.family levels e.least e.most z

pub slice_bounds-levels-end : goal.slice_bounds-levels-end
slice_bounds-levels-end c = (size (goal.at.slice_bounds-levels-end c).Start c.in_ok-levels.levels (search rules)).0

pub slice_bounds-bit_code-end : goal.slice_bounds-bit_code-end
slice_bounds-bit_code-end c = (size (goal.at.slice_bounds-bit_code-end c).Start c.in_ok-levels.levels (search rules)).1

pub bit_code-requires : goal.bit_code-requires
bit_code-requires c =
    let z = size (goal.at.bit_code-requires c).Start c.in_ok-levels.levels (search rules) in
    (subst (λ (n : ℕ). 0 < n) z.1 z.2, subst (λ (n : ℕ). n ≤ 64) z.1 z.3)

pub returns-in_err-bits : goal.returns-in_err-bits
returns-in_err-bits c =
    let a = c.args in
    let p = a.picture.now in
    let t = a.table.now in
    let o = c.in_ok-corners.ensures.ok in
    let l = levels_are p.bytes.now p.frame t.family c.axes.result c.in_ok-levels.levels a.quad c.in_ok-levels.ensures.inside c.in_ok-levels.ensures.sampled (c.axes.ensures ∙ ap axes_of o.0) in
    let e = c.in_err-bits.field-0.0 in
    ap (with_corners a.quad) (passed c.from_residual-in_err-bits.result e c.from_residual-in_err-bits.ensures.1)
    ∙ sym (reading_levels p.bytes.now p.frame t.family t.codes.now a.quad o.1 (sym (outside_is p.frame c.in_ok-corners.corners a.quad _ o.0 c.is_outside.ensures) ∙ c.if-is_outside.false) l.0 (number_of e)
    (ap (λ (x : List ℕ). code_of x 10 3) (sym l.1) ∙ sym c.in_err-bits.ensures))

pub best_tag-requires : goal.best_tag-requires
best_tag-requires c =
    let k = (known (goal.at.best_tag-requires c).Start).coded in
    (k.edges.least, k.edges.most, k.near.least, k.near.most)

-- what is found, as the search says it
found_seen : (o : Option Match) → paper_read (ok_or o Unread) ≡ paper_match o
found_seen (Some m) = refl
found_seen None = refl

pub returns : goal.returns
returns c =
    let a = c.args in
    let p = a.picture.now in
    let t = a.table.now in
    let o = c.in_ok-corners.ensures.ok in
    let l = levels_are p.bytes.now p.frame t.family c.axes.result c.in_ok-levels.levels a.quad c.in_ok-levels.ensures.inside c.in_ok-levels.ensures.sampled (c.axes.ensures ∙ ap axes_of o.0) in
    ap (λ (r : Result Match Refusal). with_corners a.quad (paper_read r)) c.ok_or.ensures.value
    ∙ ap (with_corners a.quad) (found_seen c.best_tag.result.found ∙ c.best_tag.ensures.answer)
    ∙ sym (reading_word p.bytes.now p.frame t.family t.codes.now a.quad o.1 (sym (outside_is p.frame c.in_ok-corners.corners a.quad _ o.0 c.is_outside.ensures) ∙ c.if-is_outside.false) l.0 c.in_ok-bits.bits
    (ap (λ (x : List ℕ). code_of x 10 3) (sym l.1) ∙ sym c.in_ok-bits.ensures))
