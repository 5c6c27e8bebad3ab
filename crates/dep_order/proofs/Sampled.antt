-- The samples.
use Rattle.std.proofs.Common.{◌≡◌, ℕ, [], ◌∷◌, inl, inr, get_or, refl, ap, arith}
use Rattle.exec_core.specs.Whole.{Place}
use Rattle.dep_order.specs.Samples.{a, b, reaches_through_two_versions, ring_is_a_cycle, depends_through_its_test, depend_in_a_loop, pairs_of_two_instances, output_of_the_child}

pub reaches : reaches_through_two_versions
reaches = record {
  start = 3;
  one_of = inl refl;
  reaches = record { signal = omega arith; way = inr (omega arith, record { between = 2 ∷ []; versions = (omega arith, tt); walk = (inl refl, inl refl) }) };
}

pub is_a_cycle : ring_is_a_cycle
is_a_cycle = (
  (reaches, record { start = 0; one_of = inl refl; reaches = record { signal = omega arith; way = inl refl } }),
  (((λ e. omega (arith, e)), tt), (tt, tt)),
  (omega arith, tt),
  (omega arith, (omega arith, tt)),
)

pub through_its_test : depends_through_its_test
through_its_test = record { driver = _; drives = refl; reads = inl refl }

name_number : Place → ℕ
name_number p = get_or p.name 0 0

pub in_a_loop : depend_in_a_loop
unfolding name_number
in_a_loop = (
  (record { driver = _; drives = refl; reads = inr (inl refl) }, record { driver = _; drives = refl; reads = refl }),
  (((λ e. let n : name_number b ≡ name_number a = ap name_number e in omega (arith, n)), tt), (tt, tt)),
)

pub two_instances : pairs_of_two_instances
two_instances = refl

pub childs_output : output_of_the_child
childs_output = refl
