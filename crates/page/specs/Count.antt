-- How many records of a page are in use, and what touching a page writes ("01, The page"). Assumes nothing.
use Rattle.std.specs.Prelude.{ℕ, ◌+◌, ◌*◌, ◌≤◌, ◌<◌, Bool, not, List, eqb}
use Rattle.ground.specs.Range.{count_below}
use Rattle.little.specs.Little.{little, part}
use Rattle.kind.specs.Kind.{header_size}
use Rattle.page.specs.Header.{page_at, txn_id, item_count, put_field}
use Rattle.kind.specs.declared.Kind.{Kind}

-- record i of a page is in use: "its slots with create not 0, or its entries with writer not 0"; either is the first 8 bytes
unfoldable pub in_use : ℕ → List ℕ → ℕ → Bool
in_use size page i = not (eqb (little (part (header_size + i * size) 8 page)) 0)

unfoldable pub items_in : Kind → List ℕ → ℕ
items_in k page = count_below (in_use k.size page) k.count

-- page p with its item_count counted anew, as sweeping does, and with a session's number as its txn_id besides
unfoldable pub counted : Kind → ℕ → List ℕ → List ℕ
counted k p s = put_field item_count p (items_in k (page_at p s)) s

unfoldable pub touched : Kind → ℕ → ℕ → List ℕ → List ℕ
touched k p txn s = put_field txn_id p txn (counted k p s)

-- a kind whose records lie in their page: what the functions over any kind ask of it
pub record Roomy (k : Kind) : Type 0 where
  pub few : k.count ≤ 8144
  pub room : (i : ℕ) → i < k.count → header_size + i * k.size + 8 ≤ 8192
