-- Options that are answers, as structs for C. Assumes nothing.
use Rattle.std.specs.Prelude.{true, false, Option, Some, None}
use Rattle.rules.specs.declared.Policy.{Policy}
use Rattle.rules.specs.declared.Terms.{Terms}
use Rattle.link_c.specs.declared.LinkPolicy.{LinkPolicy}
use Rattle.link_c.specs.declared.questions.LinkTerms.{LinkTerms}

abbrev pub link_policy_of : Option Policy → LinkPolicy
link_policy_of (Some p) = record { policy = p; known = true }
link_policy_of None = record { policy = record { gap = 0; messages = 0; bytes = 0; body = 0 }; known = false }

abbrev pub terms_of : Option Terms → LinkTerms
terms_of (Some t) = record { terms = t; waiting = true }
terms_of None = record { terms = record { number = 0; initiator = false }; waiting = false }
