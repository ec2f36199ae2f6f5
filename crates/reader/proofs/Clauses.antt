-- Clauses by their names: a proof of several facts, as the parts of a contract.

pub answer-kept : {A B : Type 0} → A × B → record { answer : A; kept : B }
answer-kept p = record { answer = p.0; kept = p.1 }

pub answer-kept-heights-meaning : {A B C D : Type 0} → A × (B × (C × D)) → record { answer : A; kept : B; heights : C; meaning : D }
answer-kept-heights-meaning p = record { answer = p.0; kept = p.1.0; heights = p.1.1.0; meaning = p.1.1.1 }

pub answer-kept-meaning : {A B C : Type 0} → A × (B × C) → record { answer : A; kept : B; meaning : C }
answer-kept-meaning p = record { answer = p.0; kept = p.1.0; meaning = p.1.1 }

pub result_value-out_after : {A B : Type 0} → A × B → record { result_value : A; out_after : B }
result_value-out_after p = record { result_value = p.0; out_after = p.1 }

pub result_value-store_after : {A B : Type 0} → A × B → record { result_value : A; store_after : B }
result_value-store_after p = record { result_value = p.0; store_after = p.1 }
