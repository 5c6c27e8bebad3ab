-- How codes are found: each stands in a bucket that its bytes tell; a bucket leads to its last code, and each code to the
-- one before it in its bucket. A code that is led to is told by its number and one more; 0 tells that there is none.
use Rattle.std.specs.Prelude.{◌≡◌, ◌<◌, ◌≤◌, ◌≢◌, ℕ, suc, ◌*◌, ◌%◌, ◌^◌, List, [], ◌∷◌, length, get_or, map, fold, Some, bit_xor}
use Rattle.vcd_read.specs.declared.codes.CodeRow.{CodeRow}
use Rattle.vcd_read.specs.Head.{Code, known}

-- bytes mixed into one number of 64 bits: the hash of Fowler, Noll and Vo, as 1a
unfoldable pub hash_of : List ℕ → ℕ
hash_of bytes = fold (λ hash byte. (bit_xor hash byte * 1099511628211) % 2 ^ 64) 14695981039346656037 bytes

-- the bucket, of so many, in which a code stands
abbrev pub bucket_of : ℕ → List ℕ → ℕ
bucket_of count code = hash_of code % count

-- the bucket of the code of a number
abbrev pub bucket_at : ℕ → List (List ℕ) → ℕ → ℕ
bucket_at count texts number = bucket_of count (get_or texts number [])

-- the codes of these bytes and sizes
abbrev pub codes_of : List (List ℕ) → List ℕ → List Code
codes_of [] sizes = []
codes_of (text ∷ texts) [] = []
codes_of (text ∷ texts) (size ∷ sizes) = (text, size) ∷ codes_of texts sizes

abbrev pub sizes_of : List CodeRow → List ℕ
sizes_of rows = map (λ row. row.size) rows

abbrev pub nexts_of : List CodeRow → List ℕ
nexts_of rows = map (λ row. row.next) rows

-- each code leads to one before it in its bucket, and passes over none there
pub record AreNexts (count : ℕ) (texts : List (List ℕ)) (nexts : List ℕ) : Type 0 where
  pub above : (n m : ℕ) → n < m → m < length texts → bucket_at count texts n ≡ bucket_at count texts m → n < get_or nexts m 0
  pub led : (n m : ℕ) → m < length texts → get_or nexts m 0 ≡ suc n → (n < m) × (bucket_at count texts n ≡ bucket_at count texts m)

-- each bucket leads to a code in it, and passes over none in it
pub record AreHeads (count : ℕ) (heads : List ℕ) (texts : List (List ℕ)) : Type 0 where
  pub above : (n : ℕ) → n < length texts → n < get_or heads (bucket_at count texts n) 0
  pub led : (n bucket : ℕ) → get_or heads bucket 0 ≡ suc n → (n < length texts) × (bucket_at count texts n ≡ bucket)

-- buckets, and the bytes and rows of codes, of which no two have the same bytes
pub record AreCodes (heads : List ℕ) (texts : List (List ℕ)) (rows : List CodeRow) : Type 0 where
  pub same : length texts ≡ length rows
  pub some : 0 < length heads
  pub buckets : AreHeads (length heads) heads texts
  pub chains : AreNexts (length heads) texts (nexts_of rows)
  pub distinct : (n : ℕ) → n < length texts → known (get_or texts n []) (codes_of texts (sizes_of rows)) ≡ Some (n, get_or (sizes_of rows) n 0)

-- a code is sought from this one on, and is none behind it
pub record IsSought (texts : List (List ℕ)) (rows : List CodeRow) (code : List ℕ) (last : ℕ) : Type 0 where
  pub count : ℕ
  pub same : length texts ≡ length rows
  pub chains : AreNexts count texts (nexts_of rows)
  pub led : (n : ℕ) → last ≡ suc n → (n < length texts) × (bucket_at count texts n ≡ bucket_of count code)
  pub past : (n : ℕ) → last ≤ n → n < length texts → bucket_at count texts n ≡ bucket_of count code → get_or texts n [] ≢ code
