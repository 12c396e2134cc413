use Rattle.std.proofs.Common.{◌≡◌, ◌∙◌, ◌||◌, ℕ, Bool, List, false, codes, ap, refl, sym}
use Rattle.std.proofs.Math.Bool.{or-false}
use Rattle.odb_doc.specs.Members.{is_unknown, request_names}
use Rattle.odb_doc.proofs.batch.members.Members.put.Goals as goal

known : (before : Bool) (name : List ℕ) → is_unknown request_names name ≡ false → before ≡ (before || is_unknown request_names name)
known before name is = sym (ap (λ unknown. before || unknown) is ∙ or-false before)

pub returns-in-id : goal.returns-in-id
unfolding is_unknown
returns-in-id c = rw c.in-id.is (record { id = refl; method = refl; url = refl; group = refl; depends_on = refl; condition = refl; headers = refl; body = refl; unknown = known c.args.self.now.has_unknown (codes "id") refl })

pub returns-in-method : goal.returns-in-method
unfolding is_unknown
returns-in-method c = rw c.in-method.is (record { id = refl; method = refl; url = refl; group = refl; depends_on = refl; condition = refl; headers = refl; body = refl; unknown = known c.args.self.now.has_unknown (codes "method") refl })

pub returns-in-url : goal.returns-in-url
unfolding is_unknown
returns-in-url c = rw c.in-url.is (record { id = refl; method = refl; url = refl; group = refl; depends_on = refl; condition = refl; headers = refl; body = refl; unknown = known c.args.self.now.has_unknown (codes "url") refl })

pub returns-in-atomicityGroup : goal.returns-in-atomicityGroup
unfolding is_unknown
returns-in-atomicityGroup c = rw c.in-atomicityGroup.is (record { id = refl; method = refl; url = refl; group = refl; depends_on = refl; condition = refl; headers = refl; body = refl; unknown = known c.args.self.now.has_unknown (codes "atomicityGroup") refl })

pub returns-in-dependsOn : goal.returns-in-dependsOn
unfolding is_unknown
returns-in-dependsOn c = rw c.in-dependsOn.is (record { id = refl; method = refl; url = refl; group = refl; depends_on = refl; condition = refl; headers = refl; body = refl; unknown = known c.args.self.now.has_unknown (codes "dependsOn") refl })

pub returns-in-if : goal.returns-in-if
unfolding is_unknown
returns-in-if c = rw c.in-if.is (record { id = refl; method = refl; url = refl; group = refl; depends_on = refl; condition = refl; headers = refl; body = refl; unknown = known c.args.self.now.has_unknown (codes "if") refl })

pub returns-in-headers : goal.returns-in-headers
unfolding is_unknown
returns-in-headers c = rw c.in-headers.is (record { id = refl; method = refl; url = refl; group = refl; depends_on = refl; condition = refl; headers = refl; body = refl; unknown = known c.args.self.now.has_unknown (codes "headers") refl })

pub returns-in-body : goal.returns-in-body
unfolding is_unknown
returns-in-body c = rw c.in-body.is (record { id = refl; method = refl; url = refl; group = refl; depends_on = refl; condition = refl; headers = refl; body = refl; unknown = known c.args.self.now.has_unknown (codes "body") refl })
