use Rattle.store.proofs.Linear.{lists_add, looks_add_nothing, polls_add, posts_add}
use Rattle.store.proofs.laws.calls_add.Goals as goal

pub returns : goal.returns
returns c = record { looks = looks_add_nothing; lists = lists_add; posts = posts_add; polls = polls_add }
