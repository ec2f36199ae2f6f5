-- Clauses by their names: a proof of several facts, as the parts of a contract.

pub answer-area : {A B : Type 0} → A × B → record { answer : A; area : B }
answer-area p = record { answer = p.0; area = p.1 }
