use Rattle.ess_seen_laws.proofs.Lookups.{new-within}
use Rattle.ess_seen_laws.proofs.More.{places-more, set-more, seen-more, going-more, places-indices}
use Rattle.ess_seen_laws.proofs.laws.seen_trees_stay_among_more.Goals as goal

pub returns : goal.returns
returns c = record {
  seen = λ cells r t e m w f. seen-more cells w f;
  set = λ cells r t e k w s. set-more cells w s;
  places = λ cells r t es k w p. places-more cells w p;
  going = λ cells r t u gs w g. going-more cells w g;
  new_name = new-within;
  indices = λ cells r es k p. places-indices cells p;
}
