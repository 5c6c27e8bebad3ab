use Rattle.sim_tests.proofs.tests.printed.Goals as goal

pub print_net-ended-requires : goal.print_net-ended-requires
print_net-ended-requires c = c.in_ok-net.ensures.fits c.in_ok-ports.ports c.in_ok-ports.ensures.inputs c.in_ok-ports.ensures.outputs
