-- Visits, when one is put last.
use Rattle.std.proofs.Common.{arith, ◌≡◌, ◌+◌, ℕ, suc, List, [], ◌∷◌, ◌++◌, length, sym, ◌∙◌, ap, append_assoc, append-nil}
use Rattle.serve_net.specs.declared.visit.Visit.{Visit}
use Rattle.serve_net.specs.Visits.{line_of, lines_from, link_in, links_in, failure_in, failures_in}

pub lines_more : (who : List ℕ) (number : ℕ) (visits : List Visit) (visit : Visit) → lines_from who number (visits ++ visit ∷ []) ≡ lines_from who number visits ++ line_of who (number + length visits) visit
unfolding lines_from
lines_more who number [] visit = append-nil (line_of who number visit) ∙ ap (λ n. line_of who n visit) (omega arith)
lines_more who number (v ∷ visits) visit =
    ap (λ l. line_of who number v ++ l) (lines_more who (suc number) visits visit ∙ ap (λ n. lines_from who (suc number) visits ++ line_of who n visit) (omega arith))
    ∙ sym (append_assoc (line_of who number v) (lines_from who (suc number) visits) (line_of who (number + suc (length visits)) visit))

pub links_more : (visits : List Visit) (visit : Visit) → links_in (visits ++ visit ∷ []) ≡ links_in visits ++ link_in visit
unfolding links_in
links_more [] visit = append-nil (link_in visit)
links_more (v ∷ visits) visit = ap (λ l. link_in v ++ l) (links_more visits visit) ∙ sym (append_assoc (link_in v) (links_in visits) (link_in visit))

pub failures_more : (visits : List Visit) (visit : Visit) → failures_in (visits ++ visit ∷ []) ≡ failures_in visits + failure_in visit
unfolding failures_in
failures_more [] visit = omega arith
failures_more (v ∷ visits) visit = ap (λ n. failure_in v + n) (failures_more visits visit) ∙ omega arith
