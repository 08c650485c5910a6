-- Counting at the end ("01, The page"): the sweep notes the pages in which it writes, and counts each of them once. Assumes nothing.
use Rattle.std.specs.Prelude.{ℕ, zero, suc, cond, List, get_or, eqb}
use Rattle.kind.specs.declared.Kind.{Kind}
use Rattle.kind.specs.Kind.{data_kind, undo_kind, pages}
use Rattle.kind.specs.Areas.{Both, both}
use Rattle.page.specs.Count.{counted}

-- the first n pages of an area of kind k, each counted anew whose flag in `due` is not 0, one after the other
unfoldable pub tallied_to : Kind → List ℕ → ℕ → List ℕ → List ℕ
tallied_to k due zero s = s
tallied_to k due (suc n) s = cond (eqb (get_or due n 0) 0) (tallied_to k due n s) (counted k n (tallied_to k due n s))

-- all its pages
unfoldable pub tallied : Kind → List ℕ → List ℕ → List ℕ
tallied k due s = tallied_to k due (pages s) s

-- the two areas that the sweep writes, each with its flags
abbrev pub tallied_both : List ℕ → List ℕ → List ℕ → List ℕ → Both
tallied_both data_due d undo_due u = both (tallied data_kind data_due d) (tallied undo_kind undo_due u)
