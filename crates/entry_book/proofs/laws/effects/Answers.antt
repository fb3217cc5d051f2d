use Rattle.entry_book.proofs.EffectsOfBundles.{drop_bundle_effect}
use Rattle.entry_book.proofs.EffectsOfEntries.{create_effect, update_effect, delete_effect}
use Rattle.entry_book.proofs.EffectsOfQuestions.{show_effect, show_agent_effect, show_bundle_effect, children_effect, authorised_effect, trust_effect}
use Rattle.entry_book.proofs.EffectsOfRows.{prune_effect, set_agent_effect, drop_agent_effect, set_bundle_effect}
use Rattle.entry_book.proofs.NamedRows.{writes_named}
use Rattle.entry_book.proofs.Once.{writes_once}
use Rattle.entry_book.proofs.Refused.{accepted_as_said, refused_as_said}
use Rattle.entry_book.proofs.Pages.{page_effect}
use Rattle.entry_book.proofs.laws.effects.Goals as goal

pub returns-clause-create : goal.returns-clause-create
returns-clause-create c = create_effect

pub returns-clause-update : goal.returns-clause-update
returns-clause-update c = update_effect

pub returns-clause-delete : goal.returns-clause-delete
returns-clause-delete c = delete_effect

pub returns-clause-show : goal.returns-clause-show
returns-clause-show c = show_effect

pub returns-clause-show_agent : goal.returns-clause-show_agent
returns-clause-show_agent c = show_agent_effect

pub returns-clause-show_bundle : goal.returns-clause-show_bundle
returns-clause-show_bundle c = show_bundle_effect

pub returns-clause-children : goal.returns-clause-children
returns-clause-children c = children_effect

pub returns-clause-page : goal.returns-clause-page
returns-clause-page c = page_effect

pub returns-clause-authorised : goal.returns-clause-authorised
returns-clause-authorised c = authorised_effect

pub returns-clause-trust : goal.returns-clause-trust
returns-clause-trust c = trust_effect

pub returns-clause-prune : goal.returns-clause-prune
returns-clause-prune c = prune_effect

pub returns-clause-set_agent : goal.returns-clause-set_agent
returns-clause-set_agent c = set_agent_effect

pub returns-clause-drop_agent : goal.returns-clause-drop_agent
returns-clause-drop_agent c = drop_agent_effect

pub returns-clause-set_bundle : goal.returns-clause-set_bundle
returns-clause-set_bundle c = set_bundle_effect

pub returns-clause-drop_bundle : goal.returns-clause-drop_bundle
returns-clause-drop_bundle c = drop_bundle_effect

pub returns-clause-accepted : goal.returns-clause-accepted
returns-clause-accepted c = accepted_as_said

pub returns-clause-refused : goal.returns-clause-refused
returns-clause-refused c = refused_as_said

pub returns-clause-once : goal.returns-clause-once
returns-clause-once c = writes_once

pub returns-clause-named : goal.returns-clause-named
returns-clause-named c = writes_named
