-- The status bits of a number, and what they say ("01, The page"). Assumes nothing.
use Rattle.std.specs.Prelude.{ℕ, zero, suc, ◌+◌, ◌-◌, ◌*◌, ◌/◌, ◌%◌, ◌^◌, List, get_or, set}
use Rattle.kind.specs.Kind.{page_size, header_size}
use Rattle.status.specs.declared.Status.{Status}
use Rattle.status.specs.declared.Status.TheVariants.{InWork, Committed, Withdrawn, Reserved}

-- "2 bits for each of 32,576 numbers": four numbers to a byte behind the header
abbrev pub numbers_to_page : ℕ → ℕ
numbers_to_page page = (page - header_size) * 4

-- the numbers handed out are 1 to 32,575; number 0 has a place on the page all the same
abbrev pub last_number : ℕ
last_number = 32575

-- "Status of number n: byte 48 + n/4 (whole division) of its page, shifted by (n mod 4) × 2"
abbrev pub status_place : ℕ → ℕ → ℕ
status_place page n = n / numbers_to_page page * page + (header_size + n % numbers_to_page page / 4)

abbrev pub status_shift : ℕ → ℕ
status_shift n = n % 4 * 2

-- the two bits of number n in its byte b, and b with them put to v; the bits of other numbers stay
unfoldable pub bits_in : ℕ → ℕ → ℕ
bits_in n b = b / 2 ^ status_shift n % 4

unfoldable pub put_bits_in : ℕ → ℕ → ℕ → ℕ
put_bits_in n v b = b % 2 ^ status_shift n + (v + 4 * (b / 2 ^ status_shift n / 4)) * 2 ^ status_shift n

-- "00 in work, 01 committed, 10 withdrawn, 11 reserved"
abbrev pub bits_of : Status → ℕ
bits_of InWork = 0
bits_of Committed = 1
bits_of Withdrawn = 2
bits_of Reserved = 3

abbrev pub status_of : ℕ → Status
status_of zero = InWork
status_of (suc zero) = Committed
status_of (suc (suc zero)) = Withdrawn
status_of (suc (suc (suc n))) = Reserved

-- the status of number n in a status area, and the area with it put
unfoldable pub status_at : ℕ → List ℕ → Status
status_at n s = status_of (bits_in n (get_or s (status_place page_size n) 0))

unfoldable pub put_status : ℕ → Status → List ℕ → List ℕ
put_status n v s = set s (status_place page_size n) (put_bits_in n (bits_of v) (get_or s (status_place page_size n) 0))
