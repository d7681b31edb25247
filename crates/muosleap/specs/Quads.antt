-- The list reader as an entry: "the list reader's 1, 6, 16 and, in rows, 8 to 13", and of 02's ticket 4 "18, given in rows only, after 13". A
-- refused call leaves both outputs as they were. Assumes nothing.
use Rattle.std.specs.Prelude.{ℕ, cond, not, List, Float, length}
use Rattle.refusals.specs.Outcome.{refused}
use Rattle.refusals.specs.Pixels.{bad_frame}
use Rattle.refusals.specs.declared.Frame.{Frame}
use Rattle.tables.specs.Table.{bad_table}
use Rattle.tables.specs.declared.Family.{Family}
use Rattle.tag_families.specs.Families.{is_family, family_of, codes_of}
use Rattle.listing.specs.Listing.{bad_list, Listing, listing_of, listing}

-- with a lent table
unfoldable pub decode_quads : List ℕ → Frame → Family → List ℕ → List Float → List ℕ → List Float → Listing
unfolding bad_frame bad_table bad_list listing
decode_quads plane frame family codes quads rows corners =
    cond (bad_frame (length plane) frame) (listing_of (refused 1) rows corners)
    (cond (bad_table family codes) (listing_of (refused 6) rows corners)
    (cond (bad_list (length quads) (length rows) (length corners)) (listing_of (refused 16) rows corners)
    (listing plane frame family codes quads rows corners)))

-- by family number
unfoldable pub decode_quads_in : List ℕ → Frame → ℕ → List Float → List ℕ → List Float → Listing
unfolding bad_frame bad_list listing
decode_quads_in plane frame number quads rows corners =
    cond (bad_frame (length plane) frame) (listing_of (refused 1) rows corners)
    (cond (not (is_family number)) (listing_of (refused 6) rows corners)
    (cond (bad_list (length quads) (length rows) (length corners)) (listing_of (refused 16) rows corners)
    (listing plane frame (family_of number) (codes_of number) quads rows corners)))
