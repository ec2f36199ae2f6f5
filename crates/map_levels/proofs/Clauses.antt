-- Clauses by their names: a proof of several facts, as the parts of a contract.

pub by_index-by_index_2 : {A B : Type 0} → A × B → record { by_index : A; by_index_2 : B }
by_index-by_index_2 p = record { by_index = p.0; by_index_2 = p.1 }

pub value-work_after : {A B : Type 0} → A × B → record { value : A; work_after : B }
value-work_after p = record { value = p.0; work_after = p.1 }
