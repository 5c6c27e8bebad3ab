-- What words that are a demo ask for: they give a number of cells for which the chain is accepted, so the requests alone decide the status.
use Rattle.std.specs.Prelude.{◌≡◌, ℕ, List, Option, Some, ◌⊎◌}
use Rattle.listen.specs.Pairs.{Heard}
use Rattle.demo_run.specs.Asked.{Given, Contents}
use Rattle.chain_laws.specs.Laws.{IsCellCount, AsksForStatus, status_for}
use Rattle.dbg_app.specs.Call.{ByChain, call_of, EndsAsCalled}

-- how many cells it has
abbrev pub CountsCells : Type 0
CountsCells = (words : List (List ℕ)) (given : Given) → call_of words ≡ Some (ByChain given) → IsCellCount given.number

-- the status of its answer
abbrev pub AsksByRequests : Type 0
AsksByRequests =
    (words : List (List ℕ)) (given : Given) → call_of words ≡ Some (ByChain given)
    → (heard : List Heard) (files : Contents) (requests : List ℕ) → files given.requests ≡ Some requests → AsksForStatus heard files given (status_for requests)

-- and one that ends with its answer does not end with the line of a refused design or stimulus
abbrev pub EndsUnrefused : Type 0
EndsUnrefused =
    (words : List (List ℕ)) (given : Given) → call_of words ≡ Some (ByChain given)
    → (heard : List Heard) (files : Contents) (status : ℕ) (old new : Option (List ℕ)) → EndsAsCalled heard files (ByChain given) status old new → (status ≡ 0) ⊎ (status ≡ 6)
