-- Four pages at once (02, T-02: "Every value stays the same"): pages p to p + 3 of an area, of each what is said of it alone. Assumes nothing.
use Rattle.std.specs.Prelude.{ℕ, ◌+◌, Bool, ◌&&◌, List, [], ◌∷◌}
use Rattle.crc.specs.Abreast.{crc_four}
use Rattle.kind.specs.declared.Kind.{Kind}
use Rattle.page.specs.Header.{page_at}
use Rattle.whole.specs.Whole.{checksum_of, start_of, page_right, sealed_page}

-- what is said of each of them
abbrev pub of_four : {A : Type 0} → (List ℕ → A) → ℕ → List ℕ → List A
of_four f p s = f (page_at p s) ∷ f (page_at (p + 1) s) ∷ f (page_at (p + 2) s) ∷ f (page_at (p + 3) s) ∷ []

-- the checksums of what they begin with
abbrev pub starts_from : ℕ → List ℕ → List ℕ
starts_from p s = crc_four (of_four start_of p s)

-- their checksums
abbrev pub checksums_from : ℕ → List ℕ → List ℕ
checksums_from p s = of_four checksum_of p s

-- the area with their checksums written
abbrev pub sealed_four : ℕ → List ℕ → List ℕ
sealed_four p s = sealed_page (p + 3) (sealed_page (p + 2) (sealed_page (p + 1) (sealed_page p s)))

-- page p of an area of kind k is right, as page number p + 1; and so are the three behind it
abbrev pub right_at : Kind → List ℕ → ℕ → Bool
right_at k s p = page_right k (p + 1) (page_at p s)

abbrev pub four_right : Kind → List ℕ → ℕ → Bool
four_right k s p = right_at k s p && right_at k s (p + 1) && right_at k s (p + 2) && right_at k s (p + 3)
