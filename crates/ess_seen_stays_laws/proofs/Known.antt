-- What is known of trees over views: their types, more names around them, members in the place of names, and bound names.
use Rattle.ess_seen_laws.specs.Laws.{SeenTreesHaveTypes, SeenTreesStayAmongMore, MembersMayBePut, NamesOfSeenTrees}
use Rattle.ess_seen_laws.proofs.Types.{seen-type, set-type, items-type, going-under, going-behind}
use Rattle.ess_seen_laws.proofs.Lookups.{new-within}
use Rattle.ess_seen_laws.proofs.More.{going-appended, places-more, set-more, seen-more, going-more, places-indices}
use Rattle.ess_seen_laws.proofs.Puts.{seen-put, going-put, list-put}
use Rattle.ess_seen_laws.proofs.Ends.{seen-closed, seen-binds-new}

-- Their types.
pub types : SeenTreesHaveTypes
types = record {
  of_scalars = λ cells r e m f. seen-type cells f;
  of_sets = λ cells r e k s. set-type cells s;
  of_lists = λ cells r e m i. items-type cells i;
  under = λ cells r t gs g. going-under cells g;
  behind = λ cells r t gs g. going-behind cells g;
}

-- More names around them.
pub more : SeenTreesStayAmongMore
more = record {
  seen = λ cells r t e m w f. seen-more cells w f;
  set = λ cells r t e k w s. set-more cells w s;
  places = λ cells r t es k w p. places-more cells w p;
  going = λ cells r t u gs w g. going-more cells w g;
  new_name = new-within;
  indices = λ cells r es k p. places-indices cells p;
}

-- Members in the place of names.
pub puts : MembersMayBePut
puts = record {
  seen = λ cells s y h r t e m p b f. seen-put cells s y h p b f;
  going = λ cells s y h r t u gs p b g. going-put cells s y h p b g;
  appended = λ cells r t u gs hs g k. going-appended cells g k;
  listed = list-put;
}

-- Names that they use and bind.
pub names : NamesOfSeenTrees
names = record { closed = seen-closed; binds_new = seen-binds-new }
