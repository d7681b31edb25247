-- First pass: before quad q the rows and corner numbers of the quads before it stand in front of the outputs, and their ids are counted. Second
-- pass: before row p the rows before it were looked at again.
use mathlib.Core.Path.{◌≡◌, sym, ap, ap₂, subst, ◌∙◌}
use mathlib.Core.List.{List, flat_map}
use Prim.Native.Nat.{ℕ, ◌+◌, ◌*◌, ◌<◌}
use native.Mathlib.Omega.{arith}
use lib.ListN.{length}
use lib.Seq.{sets}
use Rattle.lists.specs.Tab.{tabulate}
use Rattle.lists.specs.Front.{in_front}
use Rattle.lists.proofs.Flat.{parts_none, parts_more}
use Rattle.refusals.specs.Outcome.{Outcome, accepted}
use Rattle.points.specs.Numbers.{quad_size, quad_at}
use Rattle.tables.proofs.Table.{good_table}
use Rattle.reader.specs.Reading.{Tag, reading}
use Rattle.reader.specs.Answer.{paper_reading}
use Rattle.reader.proofs.Answers.{reading_answers}
use Rattle.listing.specs.Listing.{quad_count, row_size, row_of, corners_of, readings, listing_of, listing}
use Rattle.listing.proofs.Room.{good_list}
use Rattle.listing.proofs.Sizes.{row_size_lem, corners_size}
use Rattle.listing.proofs.Counts.{Known, known, Counts, Counts-none, Counts-more, countable}
use Rattle.listing.proofs.Again.{FirstPass, first_pass, row_known, looked_at_none, LookedAt-more, looked_at_all}
use Rattle.listing.proofs.Listing.{read, all, length-readings, reading_at}
use Rattle.listing.proofs.try_decode_quads.Goals.{After-loop-q, After-try_decode_quad-reading, Start}
use Rattle.listing.proofs.try_decode_quads.Goals as goal

-- what each quad reads as by itself
abbrev reads : Start → ℕ → Outcome Tag
reads s = let a = s.args in read a.picture.now.bytes.now a.picture.now.frame a.table.now.family a.table.now.codes.now a.quads.now

reads_known : (s : Start) (q : ℕ) → Known (reads s q)
reads_known s q =
    let a = s.args in
    let t = a.table.now in
    known t.codes.now (good_table t.family t.codes.now t.sound).coded.count.most (reads s q)
    (reading_answers t.family t.codes.now t.sound (quad_at a.quads.now q) a.picture.now.bytes.now a.picture.now.frame)

-- ---- the first pass
pub loop-q-init : goal.loop-q-init
loop-q-init c =
    let a = c.args in
    let reads = reads (goal.at.loop-q-init c).Start in
    record {
      rows_are = parts_none row_of row_size row_size_lem reads a.rows.now;
      corners_are = parts_none corners_of quad_size corners_size reads a.corners.now;
      counts = Counts-none reads;
    }

-- what quad q was read as
read_as : (d : After-try_decode_quad-reading) → paper_reading d.try_decode_quad-reading.result ≡ reads (goal.at.After-try_decode_quad-reading d).Start d.loop-q.q
read_as d =
    let a = d.args in
    let same : d.quad_at-quad.result ≡ quad_at a.quads.now d.loop-q.q = d.quad_at-quad.ensures in
    d.try_decode_quad-reading.ensures ∙ ap (reading a.picture.now.bytes.now a.picture.now.frame a.table.now.family a.table.now.codes.now) same

pub count-requires : goal.count-requires
count-requires c =
    countable (reads (goal.at.count-requires c).Start) c.loop-q.q c.loop-q.counts.times c.loop-q.invariant.counts (omega (arith, c.loop-q-test.true, (good_list c.requires).few))
    (paper_reading c.try_decode_quad-reading.result) (subst Known (sym (read_as (goal.at.count-requires c).After-try_decode_quad-reading)) (reads_known (goal.at.count-requires c).Start c.loop-q.q))

pub put_row-requires : goal.put_row-requires
put_row-requires c = omega (arith, (good_list c.requires).row_room)

pub put_corners-requires : goal.put_corners-requires
put_corners-requires c = omega (arith, (good_list c.requires).corner_room)

pub loop-q-preserved : goal.loop-q-preserved
loop-q-preserved c =
    let a = c.args in
    let i = c.loop-q.invariant in
    let q = c.loop-q.q in
    let s = (goal.at.loop-q-preserved c).Start in
    let room = good_list c.requires in
    let e = read_as (goal.at.loop-q-preserved c).After-try_decode_quad-reading in
    record {
      rows_are =
          c.put_row.ensures ∙ ap (λ (o : Outcome Tag). sets c.loop-q.rows (row_size * q) (row_of o)) e
          ∙ parts_more row_of row_size row_size_lem (reads s) q a.rows.now c.loop-q.rows (omega (arith, room.row_room)) i.rows_are;
      corners_are =
          c.put_corners.ensures ∙ ap (λ (o : Outcome Tag). sets c.loop-q.corners (quad_size * q) (corners_of o)) e
          ∙ parts_more corners_of quad_size corners_size (reads s) q a.corners.now c.loop-q.corners (omega (arith, room.corner_room)) i.corners_are;
      counts =
          subst (Counts (reads s) (q + 1)) (sym c.count.ensures)
          (Counts-more (reads s) q c.loop-q.counts.times i.counts (paper_reading c.try_decode_quad-reading.result) e (subst Known (sym e) (reads_known s q)));
    }

abbrev all_read : After-loop-q → List (Outcome Tag)
all_read c = let a = c.args in all a.picture.now.bytes.now a.picture.now.frame a.table.now.family a.table.now.codes.now a.quads.now

all_long : (c : After-loop-q) → length (all_read c) ≡ quad_count (length c.args.quads.now)
all_long c = let a = c.args in length-readings a.picture.now.bytes.now a.picture.now.frame a.table.now.family a.table.now.codes.now a.quads.now

at_end : (c : After-loop-q) → c.loop-q.q ≡ quad_count (length c.args.quads.now)
at_end c = omega arith

counted : (c : After-loop-q) → FirstPass (all_read c) c.loop-q.counts.times
counted c =
    let a = c.args in
    first_pass (reads (goal.at.After-loop-q c).Start) (all_read c) c.loop-q.counts.times
    (λ p h. reading_at a.picture.now.bytes.now a.picture.now.frame a.table.now.family a.table.now.codes.now a.quads.now p (subst (λ (n : ℕ). p < n) (all_long c) h)) (reads_known (goal.at.After-loop-q c).Start)
    (subst (λ (n : ℕ). Counts (reads (goal.at.After-loop-q c).Start) n c.loop-q.counts.times) (at_end c ∙ sym (all_long c)) c.loop-q.invariant.counts)

rows_written : (c : After-loop-q) → c.loop-q.rows ≡ in_front (flat_map row_of (all_read c)) c.args.rows.now
unfolding readings
rows_written c =
    c.loop-q.invariant.rows_are ∙ ap (λ (n : ℕ). in_front (flat_map row_of (tabulate n (reads (goal.at.After-loop-q c).Start))) c.args.rows.now) (at_end c)

corners_written : (c : After-loop-q) → c.loop-q.corners ≡ in_front (flat_map corners_of (all_read c)) c.args.corners.now
unfolding readings
corners_written c =
    c.loop-q.invariant.corners_are ∙ ap (λ (n : ℕ). in_front (flat_map corners_of (tabulate n (reads (goal.at.After-loop-q c).Start))) c.args.corners.now) (at_end c)

-- ---- the second pass
pub loop-p-init : goal.loop-p-init
loop-p-init c = looked_at_none c.loop-q.counts.times c.loop-q.rows c.loop-q.corners

pub refuse_repeated-requires : goal.refuse_repeated-requires
refuse_repeated-requires c =
    let room = good_list c.requires in
    let f = (goal.at.refuse_repeated-requires c).After-loop-q in
    let among : c.loop-p.p < length (all_read f) = omega (arith, all_long f) in (
      omega (arith, room.row_room),
      omega (arith, room.corner_room),
      row_known (all_read f) c.loop-q.counts.times c.loop-p.rows c.args.rows.now c.loop-p.p among (counted f)
          (c.loop-p.invariant.rows_are (all_read f) c.args.rows.now (counted f) (omega (arith, among)) (rows_written f)),
    )

pub loop-p-preserved : goal.loop-p-preserved
loop-p-preserved c =
    LookedAt-more c.loop-q.counts.times c.loop-q.rows c.loop-q.corners c.loop-p.p c.loop-p.rows c.loop-p.corners _ _ c.loop-p.invariant c.refuse_repeated.ensures

pub returns : goal.returns
unfolding listing
returns c =
    let a = c.args in
    let f = (goal.at.returns c).After-loop-q in
    let n : ℕ = quad_count (length a.quads.now) in
    let both = looked_at_all (all_read f) c.loop-q.counts.times c.loop-q.rows a.rows.now c.loop-q.corners a.corners.now c.loop-p.p c.loop-p.rows c.loop-p.corners
    (omega (arith, all_long f)) (counted f) (rows_written f) (corners_written f) c.loop-p.invariant in
    ap₂ (listing_of (accepted n)) both.0 both.1
