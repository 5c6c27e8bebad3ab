-- What a bounded read finds of the requests.
use Rattle.std.proofs.Common.{List, ℕ, Option, Some, None, Vec, Global}
use Rattle.std.specs.Prelude.{IfSome, option_map}
use Rattle.io_edge.specs.Files.{Finds}
use Rattle.batch_run.specs.Texts.{most_requests}
use Rattle.dbg_app.specs.Answers.{Contents, AreRequests}

held : (file : Option (List ℕ)) (found : Option (Vec ℕ Global)) → Finds file most_requests found → AreRequests file (option_map (λ bytes. bytes.items) found)
held file None h = h
held file (Some bytes) h = h

pub requests_held : (told : Option Contents) (name : List ℕ) (found : Option (Vec ℕ Global)) → IfSome told (λ files. Finds (files name) most_requests found)
    → IfSome told (λ files. AreRequests (files name) (option_map (λ bytes. bytes.items) found))
requests_held None name found h = tt
requests_held (Some files) name found h = held (files name) found h
