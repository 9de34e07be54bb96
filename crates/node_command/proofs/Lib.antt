mod WriteFacts
