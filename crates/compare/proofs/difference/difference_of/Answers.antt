use Rattle.compare.specs.Keyed.{keys_in}
use Rattle.compare.proofs.Listing.{difference_means}
use Rattle.compare.proofs.difference.difference_of.Goals as goal

pub returns : goal.returns
returns c =
    difference_means c.args.old.now c.args.new.now (keys_in c.args.old_keys) (keys_in c.args.new_keys) c.in_ok-olds.olds c.in_ok-news.news _
    c.in_ok-olds.ensures c.in_ok-news.ensures c.in_ok-removed.ensures c.in_ok-added.ensures c.in_ok-changed.ensures
