-- The main definitions of `Namespaces`: `common_js_of`, `is_namespace`, `target_of`.
pub mod Namespaces
pub mod Tabled
