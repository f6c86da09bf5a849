-- `category_inside` makes the search's two tests, and compares where it ended.
use Rattle.category.proofs.Inside.{last_within, inside_ended}
use Rattle.category.proofs.category_inside.Goals as goal

pub end_inside-requires : goal.end_inside-requires
end_inside-requires c = last_within _ _ _ c.search-ending.ensures.last

pub returns : goal.returns
returns c =
    inside_ended _ _ c.in_ok-checked.ensures.0 c.in_ok-checked.ensures.1
    _ _ _ c.search-ending.ensures.said c.search-ending.ensures.last c.end_inside.ensures
