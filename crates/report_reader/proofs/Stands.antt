-- Which bytes begin with a row: by its map, its fields and its length. Assumes nothing.
use mathlib.Core.Path.{◌≡◌, refl, sym, ap, ap₂, subst, ◌∙◌}
use mathlib.Core.Bool.{Bool, true, false, not, ◌&&◌, cond, and-true}
use mathlib.Core.List.{List, [], ◌∷◌, ◌++◌, flat_map}
use Prim.Native.Nat.{ℕ, zero, suc, ◌+◌, ◌*◌, ◌≤◌, ◌<◌}
use native.Mathlib.Omega.{arith}
use borrow.Author.Tests.{eq-eqb, ne_eqb, eqb-true, not-true, ltb-true, leb-true, lt-ltb, le-leb}
use lib.Dec.{ltb, leb, eqb}
use lib.ListN.{length, get_or, take, drop, length-append}
use Rattle.std.proofs.lemmas.Bool.{and_parts}
use Rattle.std.specs.Cmp.{first_so, second_so, both_ways}
use Rattle.places.specs.Corners.{bad_corners}
use Rattle.refusals.specs.Outcome.{Outcome, accepted, refused}
use Rattle.points.specs.Numbers.{numbers_of}
use Rattle.reader.specs.Reading.{Tag}
use Rattle.report.specs.Reading.{row_refusal, good_row}
use Rattle.report.specs.Bytes.{low_first, unless_zero, one_unless_zero, tag_map, float_bytes, row_bytes}
use Rattle.report.specs.Rows.{same}
use Rattle.report.specs.Report.{tag_in, quad_in, has_turn, has_differing, row_in}
use Rattle.report.specs.Steps.{begins_with, bytes_stand}
use Rattle.report.proofs.Same.{same_refl, begins_means}
use Rattle.report.proofs.Good.{GoodTag, good_tag, tag_good, length-unless_zero, length_tag, one_at_most, row_some}
use Rattle.report_reader.specs.declared.Head.{Head}
use Rattle.report_reader.specs.Steps.{head_of, tag_stands}
use Rattle.report_reader.proofs.Pieces.{Stood, Stood-more, Stood-byte, Stood-number, Stood-field, Stood-quad}

-- the bits of a tag's map
abbrev map_bits : ℕ → ℕ → ℕ
map_bits t d = 1 + 2 * t + 4 * d + 8

turn_bit : (turn d : ℕ) → has_turn (map_bits (one_unless_zero turn) d) ≡ one_unless_zero turn
turn_bit zero d = omega arith
turn_bit (suc t) d = omega arith

differing_bit : (t differing : ℕ) → t ≤ 1 → has_differing (map_bits t (one_unless_zero differing)) ≡ one_unless_zero differing
differing_bit t zero h = omega arith
differing_bit t (suc d) h = omega arith

module _ (bytes : List ℕ) where
  abbrev m : ℕ
  m = get_or bytes 0 0

  abbrev t : ℕ
  t = has_turn m

  abbrev d : ℕ
  d = has_differing m

  abbrev tag : Tag
  tag = tag_in t d bytes

  -- what it takes for some bytes to begin with the row of a tag
  pub record TagStands : Type 0 where
    pub long : 35 + t + d ≤ length bytes
    pub mapped : m ≡ map_bits (one_unless_zero tag.turn) (one_unless_zero tag.differing)
    pub good : GoodTag tag

  -- the map says which fields there are
  turned : m ≡ map_bits (one_unless_zero tag.turn) (one_unless_zero tag.differing) → one_unless_zero tag.turn ≡ t
  turned e = sym (ap has_turn e ∙ turn_bit tag.turn (one_unless_zero tag.differing))

  differs : m ≡ map_bits (one_unless_zero tag.turn) (one_unless_zero tag.differing) → one_unless_zero tag.differing ≡ d
  differs e = sym (ap has_differing e ∙ differing_bit (one_unless_zero tag.turn) tag.differing (one_at_most tag.turn))

  pub tag_means : tag_stands bytes ≡ true → TagStands
  unfolding tag_stands
  tag_means h =
      let good = first_so (good_row (accepted tag)) (begins_with (row_bytes (accepted tag)) bytes) h in
      let is = begins_means (row_bytes (accepted tag)) bytes (second_so (good_row (accepted tag)) (begins_with (row_bytes (accepted tag)) bytes) h) in
      let first : m ≡ map_bits (one_unless_zero tag.turn) (one_unless_zero tag.differing) = ap (λ (l : List ℕ). get_or l 0 0) is in
      record {
        long = omega (arith, ap length is ∙ length-append (row_bytes (accepted tag)) (drop (length (row_bytes (accepted tag))) bytes), length_tag tag, turned first, differs first);
        mapped = first;
        good = good_tag tag good;
      }

  module _ (byte : (k : ℕ) → get_or bytes k 0 < 256) where
    -- and what makes it so
    fields_stood : TagStands → Stood bytes 0 (row_bytes (accepted tag))
    unfolding low_first
    fields_stood s =
        let t_is = turned s.mapped in
        let d_is = differs s.mapped in
        let corners = flat_map float_bytes (numbers_of tag.corners) in
        let at_corners : Stood bytes (3 + t + d) corners = Stood-quad bytes byte (3 + t + d) (omega (arith, s.long)) s.good.corners_pass in
        let at_differing : Stood bytes (3 + t) (unless_zero tag.differing ++ corners) =
        Stood-more bytes (3 + t) (unless_zero tag.differing) corners (Stood-field bytes d (3 + t) (omega (arith, s.long)) d_is)
        (subst (λ (k : ℕ). Stood bytes (3 + t + k) corners) (sym d_is ∙ sym (length-unless_zero tag.differing)) at_corners) in
        let at_turn : Stood bytes 3 (unless_zero tag.turn ++ (unless_zero tag.differing ++ corners)) =
        Stood-more bytes 3 (unless_zero tag.turn) (unless_zero tag.differing ++ corners) (Stood-field bytes t 3 (omega (arith, s.long)) t_is)
        (subst (λ (k : ℕ). Stood bytes (3 + k) (unless_zero tag.differing ++ corners)) (sym t_is ∙ sym (length-unless_zero tag.turn)) at_differing) in
        subst (λ (k : ℕ). Stood bytes 0 (k ∷ (low_first 2 tag.id ++ (unless_zero tag.turn ++ (unless_zero tag.differing ++ corners))))) s.mapped
        (Stood-more bytes 0 (m ∷ []) (low_first 2 tag.id ++ (unless_zero tag.turn ++ (unless_zero tag.differing ++ corners))) (Stood-byte bytes 0 (omega (arith, s.long)))
        (Stood-more bytes 1 (low_first 2 tag.id) (unless_zero tag.turn ++ (unless_zero tag.differing ++ corners)) (Stood-number bytes byte 2 1 (omega (arith, s.long))) at_turn))

    pub tag_if : TagStands → tag_stands bytes ≡ true
    unfolding tag_stands
    tag_if s =
        ap₂ (λ (a : Bool) (b : Bool). a && b) (tag_good tag s.good)
        (ap (same (row_bytes (accepted tag))) (fields_stood s) ∙ same_refl (row_bytes (accepted tag)))

  -- where one thing is missing, it does not
  pub tag_not : (TagStands → ⊥) → false ≡ tag_stands bytes
  tag_not never = go (tag_stands bytes) refl
    where
      go : (b : Bool) → tag_stands bytes ≡ b → false ≡ b
      go true e = absurd (never (tag_means e))
      go false e = refl

  -- ---- any row

  pub row_of_tag : (m ≡ 16 → ⊥) → row_in bytes ≡ accepted tag
  unfolding row_in
  row_of_tag never = ap (λ (b : Bool). cond b (refused (get_or bytes 1 0)) (accepted tag)) (ne_eqb m 16 never)

  pub row_of_refusal : m ≡ 16 → row_in bytes ≡ refused (get_or bytes 1 0)
  unfolding row_in
  row_of_refusal e = ap (λ (b : Bool). cond b (refused (get_or bytes 1 0)) (accepted tag)) (eq-eqb m 16 e)

  pub stands_tag : (m ≡ 16 → ⊥) → bytes_stand bytes ≡ tag_stands bytes
  unfolding bytes_stand tag_stands
  stands_tag never = ap (λ (row : Outcome Tag). good_row row && begins_with (row_bytes row) bytes) (row_of_tag never)

  -- a refusal is the byte behind its map
  pub stands_refusal : 2 ≤ length bytes → m ≡ 16 → bytes_stand bytes ≡ row_refusal (get_or bytes 1 0)
  unfolding bytes_stand
  stands_refusal h e =
      ap (λ (row : Outcome Tag). good_row row && begins_with (row_bytes row) bytes) (row_of_refusal e)
      ∙ ap (λ (b : Bool). row_refusal (get_or bytes 1 0) && b) (ap (same (16 ∷ get_or bytes 1 0 ∷ [])) whole ∙ same_refl (16 ∷ get_or bytes 1 0 ∷ []))
      ∙ and-true (row_refusal (get_or bytes 1 0))
    where
      whole : take 2 bytes ≡ 16 ∷ get_or bytes 1 0 ∷ []
      whole = subst (λ (k : ℕ). Stood bytes 0 (k ∷ get_or bytes 1 0 ∷ [])) e
          (Stood-more bytes 0 (m ∷ []) (get_or bytes 1 0 ∷ []) (Stood-byte bytes 0 (omega arith)) (Stood-byte bytes 1 (omega arith)))

  -- a row that stands is good, and all of it is there
  pub stands_good : bytes_stand bytes ≡ true → good_row (row_in bytes) ≡ true
  unfolding bytes_stand
  stands_good h = first_so (good_row (row_in bytes)) (begins_with (row_bytes (row_in bytes)) bytes) h

  pub stands_long : bytes_stand bytes ≡ true → length (row_bytes (row_in bytes)) ≤ length bytes
  unfolding bytes_stand
  stands_long h =
      let row = row_in bytes in
      let is = begins_means (row_bytes row) bytes (second_so (good_row row) (begins_with (row_bytes row) bytes) h) in
      omega (arith, ap length is ∙ length-append (row_bytes row) (drop (length (row_bytes row)) bytes))

  -- no row has fewer than two bytes
  pub stands_short : length bytes < 2 → false ≡ bytes_stand bytes
  stands_short h = go (bytes_stand bytes) refl
    where
      go : (b : Bool) → bytes_stand bytes ≡ b → false ≡ b
      go true e = absurd (omega (arith, stands_long e, row_some (row_in bytes)))
      go false e = refl

-- ---- the numbers of a tag

abbrev numbers_pass : ℕ → ℕ → ℕ → Bool
numbers_pass id turn differing = ltb id 1024 && (leb turn 3 && leb differing 63)

pub numbers_mean : (id turn differing : ℕ) → numbers_pass id turn differing ≡ true → (id < 1024) × (turn ≤ 3) × (differing ≤ 63)
numbers_mean id turn differing h =
    let behind = second_so (ltb id 1024) (leb turn 3 && leb differing 63) h in (
      ltb-true id 1024 (first_so (ltb id 1024) (leb turn 3 && leb differing 63) h),
      leb-true turn 3 (first_so (leb turn 3) (leb differing 63) behind),
      leb-true differing 63 (second_so (leb turn 3) (leb differing 63) behind),
    )

pub numbers_pass_lem : (bytes : List ℕ) (s : TagStands bytes) → let tag = tag_in (has_turn (get_or bytes 0 0)) (has_differing (get_or bytes 0 0)) bytes in
    numbers_pass tag.id tag.turn tag.differing ≡ true
numbers_pass_lem bytes s = simp (lt-ltb _ 1024 s.good.id_lt, le-leb _ 3 s.good.turned, le-leb _ 63 s.good.most)

-- ---- the tests of a tag's row

pub tag_short : (bytes : List ℕ) → length bytes < 35 → tag_stands bytes ≡ false
tag_short bytes h = sym (tag_not bytes (λ s. omega (arith, s.long)))

-- all of them, for bytes that have a head
abbrev pub tests : List ℕ → Head → Bool
tests bytes head =
    leb (head.corners + 32) (length bytes) && (eqb (get_or bytes 0 0) (tag_map head.turn head.differing) && (numbers_pass head.id head.turn head.differing && not (bad_corners (quad_in head.corners bytes))))

pub tests_say : (bytes : List ℕ) → ((k : ℕ) → get_or bytes k 0 < 256) → tests bytes (head_of bytes) ≡ tag_stands bytes
tests_say bytes byte = both_ways (tests bytes head) (tag_stands bytes) passed met
  where
    head : Head
    head = head_of bytes

    passed : tests bytes head ≡ true → tag_stands bytes ≡ true
    passed h =
        let long = and_parts (leb (head.corners + 32) (length bytes)) (eqb (get_or bytes 0 0) (tag_map head.turn head.differing) && (numbers_pass head.id head.turn head.differing && not (bad_corners (quad_in head.corners bytes)))) h in
        let mapped = and_parts (eqb (get_or bytes 0 0) (tag_map head.turn head.differing)) (numbers_pass head.id head.turn head.differing && not (bad_corners (quad_in head.corners bytes))) long.1 in
        let rest = and_parts (numbers_pass head.id head.turn head.differing) (not (bad_corners (quad_in head.corners bytes))) mapped.1 in
        let n = numbers_mean head.id head.turn head.differing rest.0 in
        tag_if bytes byte (record {
          long = omega (arith, leb-true (head.corners + 32) (length bytes) long.0);
          mapped = eqb-true (get_or bytes 0 0) (tag_map head.turn head.differing) mapped.0;
          good = record { id_lt = n.0; turned = n.1; most = n.2; corners_pass = not-true (bad_corners (quad_in head.corners bytes)) rest.1 };
        })

    met : tag_stands bytes ≡ true → tests bytes head ≡ true
    met h =
        let s = tag_means bytes h in
        simp (le-leb (head.corners + 32) (length bytes) (omega (arith, s.long)), eq-eqb (get_or bytes 0 0) (tag_map head.turn head.differing) s.mapped, numbers_pass_lem bytes s, s.good.corners_pass)

-- what the bytes say of the row in front
pub ruleset front_rows = (stands_short, stands_refusal, stands_tag, row_of_tag, row_of_refusal)
