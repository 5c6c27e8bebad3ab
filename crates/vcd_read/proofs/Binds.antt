-- Steps one after another.
use Rattle.std.proofs.Common.{◌≡◌, Bool, true, false, cond, Result, Ok, Err, refl}
use Rattle.vcd_read.specs.declared.fault.VcdFault.{VcdFault}
use Rattle.vcd_read.specs.Results.{◌>>=◌}

-- what follows in one way follows in two steps
pub through : {A B C : Type 0} (r : Result A VcdFault) (f : A → Result B VcdFault) (g : B → Result C VcdFault) (h : A → Result C VcdFault)
    → ((x : A) → h x ≡ (f x >>= g)) → (r >>= h) ≡ ((r >>= f) >>= g)
through (Ok x) f g h same = same x
through (Err fault) f g h same = refl

-- what follows is the same
pub bind_same : {A C : Type 0} (r : Result A VcdFault) (g h : A → Result C VcdFault) → ((x : A) → g x ≡ h x) → (r >>= g) ≡ (r >>= h)
bind_same (Ok x) g h same = same x
bind_same (Err fault) g h same = refl

-- both ways of a test go on in the same way
pub by_test : {A B C : Type 0} (b : Bool) (x y : Result A VcdFault) (u v : Result B VcdFault) (f : A → Result C VcdFault) (g : B → Result C VcdFault)
    → (x >>= f) ≡ (u >>= g) → (y >>= f) ≡ (v >>= g) → (cond b x y >>= f) ≡ (cond b u v >>= g)
by_test true x y u v f g p q = p
by_test false x y u v f g p q = q
