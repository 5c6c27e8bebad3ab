-- What a bounded read finds of the requests.
use Rattle.std.proofs.Common.{List, ℕ, Option, Some, None, Vec, Global}
use Rattle.std.specs.Prelude.{IfSome, option_map}
use Rattle.io_edge.specs.Files.{Finds}
use Rattle.batch_run.specs.Texts.{most_requests}
use Rattle.demo_run.specs.Asked.{Given, Contents, HoldsRequests}

held : (files : Contents) (given : Given) (found : Option (Vec ℕ Global)) → Finds (files given.requests) most_requests found → HoldsRequests files given (option_map (λ bytes. bytes.items) found)
held files given None h = h
held files given (Some bytes) h = h

pub requests_held : (told : Option Contents) (given : Given) (found : Option (Vec ℕ Global)) → IfSome told (λ files. Finds (files given.requests) most_requests found)
    → IfSome told (λ files. HoldsRequests files given (option_map (λ bytes. bytes.items) found))
requests_held None given found h = tt
requests_held (Some files) given found h = held files given found h
