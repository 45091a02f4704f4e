use Rattle.library_tests.proofs.orders.+orders.Given as goal

abbrev pub decreases-orders : goal.decreases-orders
decreases-orders l = l.left
