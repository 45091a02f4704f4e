use Rattle.host.proofs.stack.+use_pages.Given as goal

abbrev pub decreases-use_pages : goal.decreases-use_pages
decreases-use_pages l = l.more
