use Rattle.std.proofs.Common.{◌≡◌, ◌<◌, ◌+◌, ◌++◌, ◌∷◌, [], List, length, get_or, None, ap, sym, ◌∙◌, rules, arith}
use Rattle.std.proofs.lemmas.List.{length-map, map-append}
use Rattle.vcd_read.specs.declared.codes.CodeRow.{CodeRow}
use Rattle.vcd_read.specs.Head.{Code, known}
use Rattle.vcd_read.specs.Buckets.{bucket_of, codes_of, sizes_of}
use Rattle.vcd_read.proofs.CodeLemmas.{are-push, codes-push, length-codes_of}
use Rattle.vcd_read.proofs.codes.Codes.push.Goals as goal

pub invariant_of-self-2 : goal.invariant_of-self-2
invariant_of-self-2 c =
    let s = c.self.inside in
    let code = c.args.code.now in
    let row : CodeRow = record { size = c.args.size; next = get_or c.deref-heads.result.now c.bucket_of-bucket.result 0 } in
    let put : c.push.new.self.items ≡ s.rows.items ++ row ∷ [] = search rules in
    let kept : c.push-2.new.self ≡ s.texts ++ code ∷ [] = search rules in
    let bucket : c.bucket_of-bucket.result ≡ bucket_of (length s.heads.items) code = c.bucket_of-bucket.ensures.bucket ∙ ap (λ heads. bucket_of (length heads) code) c.deref-heads.ensures.value in
    let within : c.bucket_of-bucket.result < length s.heads.items = omega (arith, c.bucket_of-bucket.ensures.within, ap length c.deref-heads.ensures.value) in
    let last : c.in_ok-last.last ≡ length s.texts + 1 = omega (arith, c.in_ok-last.ensures, c.len-number.ensures, c.self.invariant.same) in
    let leads : row.next ≡ get_or s.heads.items c.bucket_of-bucket.result 0 = ap (λ heads. get_or heads c.bucket_of-bucket.result 0) c.deref-heads.ensures.value in
    let none : known code (codes_of s.texts (sizes_of s.rows.items)) ≡ None = ap (λ (codes : List Code). known code codes) c.self.view_is ∙ c.requires in
    rw (put, kept) (are-push s.heads.items s.texts s.rows.items code row c.bucket_of-bucket.result c.in_ok-last.last c.self.invariant bucket within last leads none)

pub returns : goal.returns
returns c =
    let s = c.self.inside in
    let code = c.args.code.now in
    let row : CodeRow = record { size = c.args.size; next = get_or c.deref-heads.result.now c.bucket_of-bucket.result 0 } in
    let put : c.push.new.self.items ≡ s.rows.items ++ row ∷ [] = search rules in
    let kept : c.push-2.new.self ≡ s.texts ++ code ∷ [] = search rules in
    let long : length s.texts ≡ length (sizes_of s.rows.items) = c.self.invariant.same ∙ sym (length-map s.rows.items (λ (row : CodeRow). row.size)) in
    let sizes : sizes_of (s.rows.items ++ row ∷ []) ≡ sizes_of s.rows.items ++ c.args.size ∷ [] = map-append (λ (row : CodeRow). row.size) s.rows.items (row ∷ []) in (
      omega (arith, c.len-number.ensures, c.self.invariant.same, length-codes_of s.texts (sizes_of s.rows.items) long, ap length c.self.view_is),
      rw (put, kept, sizes, codes-push s.texts (sizes_of s.rows.items) code c.args.size long) (ap (λ (codes : List Code). codes ++ (code, c.args.size) ∷ []) c.self.view_is),
    )
