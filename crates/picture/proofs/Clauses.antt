-- Clauses by their names: a proof of several facts, as the parts of a contract.

pub value-out_after : {A B : Type 0} → A × B → record { value : A; out_after : B }
value-out_after p = record { value = p.0; out_after = p.1 }
