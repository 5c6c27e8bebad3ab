use Rattle.std.proofs.Common.{◌≡◌, ◌<◌, List, [], length, get_or, ap, sym, ◌∙◌, subst}
use Rattle.vcd_read.specs.declared.codes.CodeRow.{CodeRow}
use Rattle.vcd_read.specs.Head.{Code, known}
use Rattle.vcd_read.specs.Buckets.{bucket_of, sizes_of, IsSought}
use Rattle.std.specs.Prelude.{IfSome}
use Rattle.vcd_read.proofs.CodeLemmas.{sought, found_is}
use Rattle.vcd_read.proofs.codes.Codes.find.Goals as goal

pub find_from-requires : goal.find_from-requires
find_from-requires c =
    let s = c.self.inside in
    let code = c.args.code.now in
    let P : List CodeRow → Type 0 = λ rows. IsSought s.texts rows code (get_or c.deref-heads.result.now c.bucket_of.result 0) in
    let last : get_or c.deref-heads.result.now c.bucket_of.result 0 ≡ get_or s.heads.items (bucket_of (length s.heads.items) code) 0 =
    ap (λ bucket. get_or c.deref-heads.result.now bucket 0) c.bucket_of.ensures.bucket ∙ ap (λ heads. get_or heads (bucket_of (length heads) code) 0) c.deref-heads.ensures.value in
    subst P (sym c.deref.ensures.value) (sought s.heads.items s.texts s.rows.items code (get_or c.deref-heads.result.now c.bucket_of.result 0) c.self.invariant last)

pub returns : goal.returns
returns c =
    let s = c.self.inside in
    let code = c.args.code.now in
    let P : List CodeRow → Type 0 = λ rows. IfSome c.find_from.result (λ found. (found.0 < length s.texts) × (get_or s.texts found.0 [] ≡ code) × (found.1 ≡ get_or (sizes_of rows) found.0 0)) in
    found_is s.heads.items s.texts s.rows.items code c.find_from.result c.self.invariant (subst P c.deref.ensures.value c.find_from.ensures.found) c.find_from.ensures.none
    ∙ ap (λ (codes : List Code). known code codes) c.self.view_is
