-- Whole pages: the checksum, a page that is right, and a page as format writes it ("01, The page"; 3 of "01, When the desk says
-- no"). Assumes nothing.
use Rattle.std.specs.Prelude.{ℕ, ◌-◌, Bool, List, ◌++◌, replicate}
use Rattle.std.proofs.lemmas.List.Edits.{sets}
use Rattle.little.specs.Little.{digits, part, bytes_of, holds}
use Rattle.crc.specs.Crc.{crc_of}
use Rattle.kind.specs.Kind.{page_size, header_size}
use Rattle.page.specs.Header.{header, page_at, txn_id, checksum, field_in, put_field}
use Rattle.page.specs.Count.{items_in}
use Rattle.kind.specs.declared.Kind.{Kind}

-- "CRC32C over the page without the four checksum bytes, so over 8,188 bytes", mended by 02, T-03: "sets the four bytes to zero and runs over all
-- 8,192 bytes" (source document 001, "Checksum Calculation")
unfoldable pub checksum_of : List ℕ → ℕ
checksum_of page = crc_of (sets page checksum.0 (digits checksum.1 0))

-- the bytes before the four, and the four: what such a page begins with
abbrev pub start_of : List ℕ → List ℕ
start_of page = part 0 20 page ++ digits 4 0

-- no "header field other than txn_id (checksum and item_count included) is wrong": the header is the one that page number `id`
-- of kind k should have with the txn_id that it has
unfoldable pub page_right : Kind → ℕ → List ℕ → Bool
page_right k id page = holds page 0 (header k id (field_in txn_id page) (checksum_of page) (items_in k page))

-- the same but for the checksum: what a page that is about to be sealed should be
unfoldable pub header_right : Kind → ℕ → List ℕ → Bool
header_right k id page = holds page 0 (header k id (field_in txn_id page) (field_in checksum page) (items_in k page))

-- "Format and seal write it": page p with its checksum
unfoldable pub sealed_page : ℕ → List ℕ → List ℕ
sealed_page p s = put_field checksum p (checksum_of (page_at p s)) s

-- "Format writes all this with txn_id 0 and everything else empty": page number `id`, before and after its checksum is written
unfoldable pub blank_page : Kind → ℕ → List ℕ
blank_page k id = bytes_of (header k id 0 0 0) ++ replicate (page_size - header_size) 0

unfoldable pub fresh_page : Kind → ℕ → List ℕ
fresh_page k id = sets (blank_page k id) checksum.0 (digits checksum.1 (checksum_of (blank_page k id)))
